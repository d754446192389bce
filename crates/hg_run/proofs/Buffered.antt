-- What a sink gets through a buffer.
use Rattle.std.proofs.Common.{◌≡◌, ℕ, zero, suc, ◌+◌, ◌≤◌, List, [], ◌∷◌, ◌++◌, length, take, drop, Option, Some, None, Result, Ok, Err, IfOk, OnOk, OnErr, sym, ap, ◌∙◌, subst, arith, length-drop, append_assoc}
use Rattle.std.proofs.Math.ListN.{drop_of_length-le}
use Rattle.std.proofs.Math.Seq.{take-append_seam}
use Rattle.std.proofs.lemmas.List.{take-append-drop, append-nil, append_cancel_left}
use Rattle.gp_base.specs.Outside.{appended, Wrote, WrotePart}
use Rattle.gp_base.proofs.Pieces.{appended-appended}
use Rattle.hg_run.specs.code.Buffering.{Grown}
use Rattle.hg_run.proofs.Told.{Wrote-none, Wrote-append, on_err}

drop_none : (n : ℕ) → drop {A = ℕ} n [] ≡ []
drop_none n = drop_of_length-le {A = ℕ} [] {i = n} (omega arith)

drop_past : (w n : ℕ) (xs : List ℕ) → drop (w + n) xs ≡ drop n (drop w xs)
drop_past zero n xs = ap (λ k. drop k xs) (let e : 0 + n ≡ n = omega arith in e)
drop_past (suc w) n [] = drop_none (suc w + n) ∙ sym (ap (drop n) (drop_none (suc w)) ∙ drop_none n)
drop_past (suc w) n (x ∷ xs) = ap (λ k. drop k (x ∷ xs)) (let e : suc w + n ≡ suc (w + n) = omega arith in e) ∙ drop_past w n xs

pub grown_none : (before : Option (List ℕ)) → Grown before before
grown_none before = ([], Wrote-none before)

pub grown_more : (before now after : Option (List ℕ)) → Grown before now → Grown now after → Grown before after
grown_more before now after (first, f) (second, s) = (first ++ second, Wrote-append first second before now after f s)

-- some of what is kept is written
pub record Flushing (before : Option (List ℕ)) (kept : List ℕ) (now : Option (List ℕ)) (bytes : List ℕ) (written faults faults_now : ℕ) : Type 0 where
  pub within : written ≤ length bytes
  pub whole : appended now (drop written bytes) ≡ appended before kept
  pub grown : Grown before now
  pub faults_rise : faults ≤ faults_now

pub none_more : (before : Option (List ℕ)) (kept bytes : List ℕ) (written faults : ℕ) → written ≤ length bytes → drop written bytes ≡ kept → Flushing before kept before bytes written faults faults
none_more before kept bytes written faults l e = record { within = l; whole = ap (appended before) e; grown = grown_none before; faults_rise = omega arith }

-- one piece more
pub one_more : (before now after : Option (List ℕ)) (kept bytes : List ℕ) (written n faults faults_now faults_after : ℕ) → Flushing before kept now bytes written faults faults_now
    → n ≤ length (drop written bytes) → after ≡ appended now (take n (drop written bytes)) → faults_now ≤ faults_after → Flushing before kept after bytes (written + n) faults faults_after
one_more before now after kept bytes written n faults faults_now faults_after F l more rises = record {
  within = omega (arith, F.within, l, length-drop written bytes);
  whole =
      ap (appended after) (drop_past written n bytes)
      ∙ (ap (λ b. appended b (drop n (drop written bytes))) more
      ∙ (appended-appended now (take n (drop written bytes)) (drop n (drop written bytes))
      ∙ (ap (appended now) (take-append-drop n (drop written bytes)) ∙ F.whole)));
  grown = grown_more before now after F.grown (take n (drop written bytes), more);
  faults_rise = omega (arith, F.faults_rise, rises);
}

-- all of it
pub all_written : (before : Option (List ℕ)) (kept : List ℕ) (now : Option (List ℕ)) (bytes : List ℕ) (written faults faults_now : ℕ) → Flushing before kept now bytes written faults faults_now
    → length bytes ≤ written → appended now [] ≡ appended before kept
all_written before kept now bytes written faults faults_now F l = ap (appended now) (sym (drop_of_length-le bytes {i = written} l)) ∙ F.whole

-- ---- what a run has told

abbrev bytes_or : Option (List ℕ) → List ℕ
bytes_or None = []
bytes_or (Some bytes) = bytes

-- what is still kept is left out
pub part_of : (before now : Option (List ℕ)) (kept text : List ℕ) → Grown before now → WrotePart before (appended now kept) text → WrotePart before now text
part_of None now kept text (more, g) p = (0, g)
part_of (Some b) now kept text (more, g) (count, p) =
    let both : more ++ kept ≡ take count text
    = append_cancel_left b (more ++ kept) (take count text) (sym (append_assoc b more kept) ∙ ap bytes_or (sym (ap (λ x. appended x kept) g) ∙ p)) in
    let split : text ≡ more ++ (kept ++ drop count text)
    = sym (take-append-drop count text) ∙ (ap (λ x. x ++ drop count text) (sym both) ∙ append_assoc more kept (drop count text)) in
    (length more, g ∙ ap (appended (Some b)) (sym (ap (take (length more)) split ∙ take-append_seam more (kept ++ drop count text))))

pub all_part : (before now : Option (List ℕ)) (text : List ℕ) → Wrote before now text → WrotePart before now text
all_part before now text w = (length text, w ∙ ap (appended before) (sym (ap (take (length text)) (sym (append-nil text)) ∙ take-append_seam text [])))

pub part_none : (before now : Option (List ℕ)) (text : List ℕ) → now ≡ before → WrotePart before now text
part_none before now text e = (0, e ∙ Wrote-none before)

module _ {T E : Type 0} (told result : Result T E) (before mid after : Option (List ℕ)) (first kept last text : List ℕ) (none : first ≡ [])
    (ok : OnOk told (Wrote (appended before first) (appended mid kept) text)) (end : IfOk result (λ how. told ≡ Ok how)) (whole : appended after last ≡ appended mid kept) where
  begin : (more : List ℕ) → appended (appended before first) more ≡ appended before more
  begin more = ap (λ k. appended (appended before k) more) none ∙ ap (λ b. appended b more) (sym (Wrote-none before))

  pub told_ok : OnOk result (last ≡ []) → OnOk result (Wrote before after text)
  told_ok empty = go result end empty
    where
      go : (result : Result T E) → IfOk result (λ how. told ≡ Ok how) → OnOk result (last ≡ []) → OnOk result (Wrote before after text)
      go (Ok how) end empty =
          Wrote-none after ∙ (ap (appended after) (sym empty) ∙ (whole ∙ (subst (λ r. OnOk r (Wrote (appended before first) (appended mid kept) text)) end ok ∙ begin text)))
      go (Err e) end empty = tt

  pub told_part : OnErr told (WrotePart (appended before first) (appended mid kept) text) → Grown before mid → Grown mid after → OnErr result (WrotePart before after text)
  told_part err g h =
      on_err result (part_of before after last text (grown_more before mid after g h) (let p = part told ok err in (p.0, whole ∙ (p.1 ∙ begin (take p.0 text)))))
    where
      part : (told : Result T E) → OnOk told (Wrote (appended before first) (appended mid kept) text) → OnErr told (WrotePart (appended before first) (appended mid kept) text) → WrotePart (appended before first) (appended mid kept) text
      part (Ok how) ok err = all_part (appended before first) (appended mid kept) text ok
      part (Err e) ok err = err

pub told_end : {T E : Type 0} (told result : Result T E) (P : T → Type 0) → IfOk result (λ how. told ≡ Ok how) → IfOk told P → IfOk result P
told_end told (Ok how) P end h = subst (λ r. IfOk r P) end h
told_end told (Err e) P end h = tt
