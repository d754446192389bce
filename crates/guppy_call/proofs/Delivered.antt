-- From what was sent to what is delivered.
use Rattle.std.proofs.Common.{◌≡◌, ◌⊎◌, ℕ, List, [], Option, inl, inr, sym, ap, subst, ◌∙◌}
use Rattle.guppy_call.specs.declared.status.Status.{Status}
use Rattle.guppy_call.specs.declared.status.Status.TheVariants as status
use Rattle.guppy_call.specs.declared.refusal.Refusal.{Refusal}
use Rattle.guppy_call.specs.Refusal.{refusal_text, status_of}
use Rattle.guppy_call.specs.Call.{Answer, Seen, seen, Sends, line_of, refused, Delivers, HasNoMemory}
use Rattle.gp_base.specs.Outside.{Holdings}
use Rattle.guppy_call.specs.Input.{AreRead}
use Rattle.guppy_call.specs.WordsFile.{AnswersFile, read}
use Rattle.gp_base.proofs.Written.{appended-nil}

-- a text that was sent to `out`, with nothing to `err`
pub delivered-out : (result due : Status) (out out_after err : Option (List ℕ)) (text : List ℕ)
    → Sends result due out out_after text → Delivers (seen result out out_after err err) (record { status = due; out = text; err = [] })
delivered-out result due out out_after err text s =
    elim s [
      | inl w ↦ inl (record { status = w.0; out = w.1; err = appended-nil err })
      | inr cut ↦ inr (record { status = cut.0; out = cut.1; err = (0, appended-nil err) })
    ]

-- a text that was sent to `err`, with nothing to `out`
pub delivered-err : (result due : Status) (out err err_after : Option (List ℕ)) (text : List ℕ)
    → Sends result due err err_after text → Delivers (seen result out out err err_after) (record { status = due; out = []; err = text })
delivered-err result due out err err_after text s =
    elim s [
      | inl w ↦ inl (record { status = w.0; out = appended-nil out; err = w.1 })
      | inr cut ↦ inr (record { status = cut.0; out = (0, appended-nil out); err = cut.1 })
    ]

-- a status that is due, or those of what came between
pub sent-status : (result due other : Status) (before after : Option (List ℕ)) (text : List ℕ) → Sends result due before after text → result ≡ other
    → (due ≡ other) ⊎ ((other ≡ status.WriteFault) ⊎ (other ≡ status.Memory))
sent-status result due other before after text s e =
    elim s [ inl w ↦ inl (sym w.0 ∙ e) | inr cut ↦ inr (elim cut.0 [ inl f ↦ inl (sym e ∙ f) | inr m ↦ inr (sym e ∙ m) ]) ]

-- nothing was written for want of memory
pub not_delivered : (result : Status) (out err : Option (List ℕ)) (answer : Answer) → result ≡ status.Memory → Delivers (seen result out out err err) answer
not_delivered result out err answer e = inr (record { status = inr e; out = (0, appended-nil out); err = (0, appended-nil err) })

pub has_no_memory : (result : Status) (out err : Option (List ℕ)) → result ≡ status.Memory → HasNoMemory (seen result out out err err)
has_no_memory result out err e = record { status = e; out = appended-nil out; err = appended-nil err }

-- the line that a mode made was sent to `out`, or that of its refusal to `err`
pub sent-line : (result : Status) (out out_after err : Option (List ℕ)) (line text : List ℕ) (answer : Answer) → line ≡ text
    → answer ≡ record { status = status.Done; out = text; err = [] } → Sends result status.Done out out_after line → Delivers (seen result out out_after err err) answer
sent-line result out out_after err line text answer same is sent =
    subst (Delivers (seen result out out_after err err)) (ap (λ t. record { status = status.Done; out = t; err = [] }) same ∙ sym is) (delivered-out result status.Done out out_after err line sent)

pub sent-refusal : (result : Status) (out err err_after : Option (List ℕ)) (refusal : Refusal) (answer : Answer) → answer ≡ refused refusal
    → Sends result (status_of refusal) err err_after (line_of (refusal_text refusal)) → Delivers (seen result out out err err_after) answer
sent-refusal result out err err_after refusal answer is sent =
    subst (Delivers (seen result out out err err_after)) (sym is) (delivered-err result (status_of refusal) out err err_after _ sent)

-- a text was read, and what is due for it is delivered
pub text-read : (Due : List ℕ → Answer → Type 0) (limit most n m : ℕ) (held : Holdings) (file name bytes text : List ℕ) (call : Seen) → most ≡ limit → name ≡ file → text ≡ bytes
    → AreRead held name most bytes → ((answer : Answer) → Due text answer → Delivers call answer) → AnswersFile Due limit n m held file call
text-read Due limit most n m held file name bytes text call l f t are_read delivers =
    read text (subst (λ z. AreRead held file limit z) (sym t) (subst (λ z. AreRead held file z bytes) l (subst (λ z. AreRead held z most bytes) f are_read))) delivers

-- a refused input has one of three statuses
pub refused-not : (result due other : Status) (before after : Option (List ℕ)) (text : List ℕ) → Sends result due before after text → due ≡ status.Refused
    → (other ≡ status.Refused → ⊥) → (other ≡ status.WriteFault → ⊥) → (other ≡ status.Memory → ⊥) → result ≡ other → ⊥
refused-not result due other before after text s refused a b c e =
    elim (sent-status result due other before after text s e) [ inl d ↦ a (sym d ∙ refused) | inr cut ↦ elim cut [ inl f ↦ b f | inr m ↦ c m ] ]
