-- The pieces that are cut off are the text's, and the fault is the first.
use Rattle.std.proofs.Common.{◌≡◌, ℕ, ◌+◌, ◌≤◌, Bool, true, false, cond, eqb, ◌&&◌, ◌||◌, [], ◌∷◌, ◌++◌, length, take, drop, Option, Some, None, Result, Ok, Err, refl, sym, ap, subst, ◌∙◌, arith}
use Rattle.std.proofs.lemmas.Bool.{eqb-true}
use Rattle.std.proofs.lemmas.Bool.Decides.{nat_tests}
use Rattle.std.proofs.lemmas.List.{take-append-drop, length-take-le}
use Rattle.gp_base.specs.declared.name.LineNo.{LineNo}
use Rattle.gp_lex.specs.declared.fault.LexFault.{LexFault}
use Rattle.gp_lex.specs.declared.fault.LexFault.TheVariants as fault
use Rattle.gp_lex.specs.declared.token.Symbol.{Symbol}
use Rattle.gp_lex.specs.declared.token.Token.{Token}
use Rattle.gp_lex.specs.declared.context.Context.{Context}
use Rattle.gp_lex.specs.declared.context.PieceKind.{PieceKind}
use Rattle.gp_lex.specs.declared.context.PieceKind.TheVariants as k
use Rattle.gp_lex.specs.Chars.{Text, continues_name, is_digit, is_quote, ends_line, run}
use Rattle.gp_lex.specs.Tokens.{string_at, Lexeme, word, digits, quoted, sign, lexeme_of, token_of}
use Rattle.gp_lex.specs.Pieces as g
use Rattle.gp_lex.specs.Pieces.{Piece, behind, line_no, is_tabbed, fits, splits_quotes, IsAt, comment_len, is_gap, IsPiece, Spelled, has_backslash, Unread, Faulty}
use Rattle.gp_lex.specs.code.Reading.{◌>>=◌, symbol_at, lexeme_at, as_quoted, as_sign, Next, line_end_at, gap_at, fitted, read_string, read_sign, read_token, token_piece, piece_at}
use Rattle.gp_lex.proofs.Fronts.{yes, no, chosen}
use Rattle.gp_lex.proofs.Symbols.{some, some_is, some_none}
use Rattle.gp_lex.proofs.Classes.{no_space, no_tab, no_hash, no_feed, no_return, no_quotes}
use Rattle.gp_lex.proofs.Longest.{Begins, name, number, string, other, begins, Taken, lexeme_taken, no_lexeme, at_string}

-- ---- steps

pub bind_ok : {A B : Type 0} (r : Result A LexFault) (f : A → Result B LexFault) (y : B) → (r >>= f) ≡ Ok y → (x : A) × (r ≡ Ok x) × (f x ≡ Ok y)
bind_ok (Ok x) f y e = (x, refl, e)
bind_ok (Err d) f y e = absurd cc

pub data Stops {A B : Type 0} (r : Result A LexFault) (f : A → Result B LexFault) (d : LexFault) : Type 0 where
  here : r ≡ Err d → Stops r f d
  later : (x : A) → r ≡ Ok x → f x ≡ Err d → Stops r f d

pub bind_err : {A B : Type 0} (r : Result A LexFault) (f : A → Result B LexFault) (d : LexFault) → (r >>= f) ≡ Err d → Stops r f d
bind_err (Ok x) f d e = later x refl e
bind_err {A} {B} (Err c) f d e = here (err_same c d e)
  where
    err_same : (c d : LexFault) → ◌≡◌ {A = Result B LexFault} (Err c) (Err d) → ◌≡◌ {A = Result A LexFault} (Err c) (Err d)
    err_same c d e = let same : c ≡ d = cc in ap (λ (z : LexFault). Err z) same

abbrev pub ok : {A : Type 0} → A → Result A LexFault
ok x = Ok x

pub ok_is : {A : Type 0} (x y : A) → ok x ≡ ok y → x ≡ y
ok_is x y e = cc

abbrev bad : LexFault → Result Next LexFault
bad d = Err d

abbrev unread : LexFault → Result (Token × Text) LexFault
unread d = Err d

bad_good : {A : Type 0} (d : LexFault) (x : Next) → bad d ≡ Ok x → A
bad_good d x e = absurd cc

good_bad : {A : Type 0} (x : Next) (d : LexFault) → ok x ≡ Err d → A
good_bad x d e = absurd cc

bad_is : (c d : LexFault) → bad c ≡ bad d → c ≡ d
bad_is c d e = cc

abbrev next : Next → Option Next
next x = Some x

-- ---- gaps

-- a piece at the front of a text
pub record Reads (at : Context) (bs : Text) (x : Next) : Type 0 where
  pub text : Text
  pub parts : bs ≡ text ++ x.1
  pub is : IsPiece at text x.0 x.1

reads : (at : Context) (a : Text) (kind : PieceKind) (rest : Text) → IsPiece at a kind rest → Reads at (a ++ rest) (kind, rest)
reads at a kind rest h = record { text = a; parts = refl; is = h }

-- a piece that is cut off a text which begins with this character
starts_with : (at : Context) (c b : ℕ) (cs : Text) (y x : Next) → eqb c b ≡ true → Reads at (b ∷ cs) y → some y ≡ Some x → Reads at (c ∷ cs) x
starts_with at c b cs y x h r e =
    subst (λ (z : Next). Reads at (c ∷ cs) z) (some_is y x e) (subst (λ (z : ℕ). Reads at (z ∷ cs) y) (sym (eqb-true c b h)) r)

comment_fits : (cs : Text) → comment_len cs ≤ length cs
comment_fits [] = omega arith
comment_fits (c ∷ cs) = by (ends_line (c ∷ cs)) (comment_fits cs)
  where
    by : (b : Bool) → comment_len cs ≤ length cs → cond b 0 (comment_len cs + 1) ≤ length (c ∷ cs)
    by true h = omega arith
    by false h = omega arith

comment_reads : (at : Context) (cs : Text) → Reads at (35 ∷ cs) (k.Comment, drop (comment_len cs) cs)
comment_reads at cs =
    let join : take (comment_len cs) cs ++ drop (comment_len cs) cs ≡ cs = take-append-drop (comment_len cs) cs in
    record {
      text = 35 ∷ take (comment_len cs) cs;
      parts = ap (λ (z : Text). 35 ∷ z) (sym join);
      is = g.comment (take (comment_len cs) cs) (drop (comment_len cs) cs) (ap comment_len join ∙ sym (length-take-le (comment_len cs) cs (comment_fits cs)));
    }

line_end_reads : (at : Context) (bs : Text) (x : Next) → line_end_at bs ≡ Some x → Reads at bs x
unfolding line_end_at
line_end_reads at [] x e = absurd cc
line_end_reads at (c ∷ []) x e =
    elim (chosen (eqb c 10) _ _ _ e) [
      | yes h go ↦ starts_with at c 10 [] (k.LineEnd, []) x h (reads at (10 ∷ []) k.LineEnd [] (g.line_feed [])) go
      | no h go ↦ absurd cc
    ]
line_end_reads at (c ∷ d ∷ cs) x e =
    elim (chosen (eqb c 10) _ _ _ e) [
      | yes h go ↦ starts_with at c 10 (d ∷ cs) (k.LineEnd, d ∷ cs) x h (reads at (10 ∷ []) k.LineEnd (d ∷ cs) (g.line_feed (d ∷ cs))) go
      | no h two ↦
          elim (chosen (eqb c 13 && eqb d 10) _ _ _ two) [
            | yes both go ↦
                let first : eqb c 13 ≡ true = grind (arith, nat_tests) in
                let second : eqb d 10 ≡ true = grind (arith, nat_tests) in
                let r = reads at (13 ∷ 10 ∷ []) k.LineEnd cs (g.return_and_line_feed cs) in
                starts_with at c 13 (d ∷ cs) (k.LineEnd, cs) x first (subst (λ (z : ℕ). Reads at (13 ∷ z ∷ cs) (k.LineEnd, cs)) (sym (eqb-true d 10 second)) r) go
            | no both go ↦ absurd cc
          ]
    ]

gap_reads : (at : Context) (bs : Text) (x : Next) → gap_at bs ≡ Some x → Reads at bs x
unfolding gap_at
gap_reads at [] x e = absurd cc
gap_reads at (c ∷ cs) x e =
    elim (chosen (eqb c 32) _ _ _ e) [
      | yes h go ↦ starts_with at c 32 cs (k.Space, cs) x h (reads at (32 ∷ []) k.Space cs (g.space cs)) go
      | no n1 e1 ↦
          elim (chosen (eqb c 9) _ _ _ e1) [
            | yes h go ↦ starts_with at c 9 cs (k.Tab, cs) x h (reads at (9 ∷ []) k.Tab cs (g.tab cs)) go
            | no n2 e2 ↦
                elim (chosen (eqb c 35) _ _ _ e2) [
                  | yes h go ↦ starts_with at c 35 cs (k.Comment, drop (comment_len cs) cs) x h (comment_reads at cs) go
                  | no n3 e3 ↦ line_end_reads at (c ∷ cs) x e3
                ]
          ]
    ]

no_line_end : (bs : Text) → ends_line bs ≡ false → line_end_at bs ≡ None
unfolding line_end_at
no_line_end [] h = refl
no_line_end (c ∷ []) h = rw h refl
no_line_end (c ∷ d ∷ cs) h = by (eqb c 10) (eqb c 13 && eqb d 10) h
  where
    by : (a b : Bool) → (a || b) ≡ false → cond a (next (k.LineEnd, d ∷ cs)) (cond b (next (k.LineEnd, cs)) None) ≡ None
    by true b h = absurd cc
    by false true h = absurd cc
    by false false h = refl

line_end_none : (bs : Text) → line_end_at bs ≡ None → ends_line bs ≡ false
unfolding line_end_at
line_end_none [] h = refl
line_end_none (c ∷ []) h = by (eqb c 10) h
  where
    by : (a : Bool) → cond a (next (k.LineEnd, [])) None ≡ None → a ≡ false
    by true h = absurd cc
    by false h = refl
line_end_none (c ∷ d ∷ cs) h = by (eqb c 10) (eqb c 13 && eqb d 10) h
  where
    by : (a b : Bool) → cond a (next (k.LineEnd, d ∷ cs)) (cond b (next (k.LineEnd, cs)) None) ≡ None → (a || b) ≡ false
    by true b h = absurd cc
    by false true h = absurd cc
    by false false h = refl

pub no_gap : (bs : Text) → is_gap bs ≡ false → gap_at bs ≡ None
unfolding gap_at
no_gap [] h = refl
no_gap (c ∷ cs) h = by (eqb c 32) (eqb c 9) (eqb c 35) (ends_line (c ∷ cs)) refl h
  where
    by : (x y z w : Bool) → ends_line (c ∷ cs) ≡ w → (x || y || z || w) ≡ false
        → cond x (next (k.Space, cs)) (cond y (next (k.Tab, cs)) (cond z (next (k.Comment, drop (comment_len cs) cs)) (line_end_at (c ∷ cs)))) ≡ None
    by true y z w e h = absurd cc
    by false true z w e h = absurd cc
    by false false true w e h = absurd cc
    by false false false true e h = absurd cc
    by false false false false e h = no_line_end (c ∷ cs) e

gap_none : (bs : Text) → gap_at bs ≡ None → is_gap bs ≡ false
unfolding gap_at
gap_none [] h = refl
gap_none (c ∷ cs) h = by (eqb c 32) (eqb c 9) (eqb c 35) h
  where
    by : (x y z : Bool) → cond x (next (k.Space, cs)) (cond y (next (k.Tab, cs)) (cond z (next (k.Comment, drop (comment_len cs) cs)) (line_end_at (c ∷ cs)))) ≡ None
        → (x || y || z || ends_line (c ∷ cs)) ≡ false
    by true y z h = absurd cc
    by false true z h = absurd cc
    by false false true h = absurd cc
    by false false false h = line_end_none (c ∷ cs) h

-- a lexeme is no gap
pub lexeme_gap : (c : ℕ) (a rest : Text) (x : Lexeme) → lexeme_of (c ∷ a) ≡ Some x → is_gap (c ∷ (a ++ rest)) ≡ false
lexeme_gap c a rest x e = by_space (eqb c 32) refl
  where
    none : (b : ℕ) → c ≡ b → lexeme_of (b ∷ a) ≡ None → ⊥
    none b same n = some_none x (sym e ∙ ap (λ (z : ℕ). lexeme_of (z ∷ a)) same ∙ n)

    no_end : eqb c 10 ≡ false → eqb c 13 ≡ false → (t : Text) → ends_line (c ∷ t) ≡ false
    no_end p q [] = p
    no_end p q (d ∷ t) = rw (p, q) refl

    by_return : eqb c 32 ≡ false → eqb c 9 ≡ false → eqb c 35 ≡ false → eqb c 10 ≡ false → (b : Bool) → eqb c 13 ≡ b → is_gap (c ∷ (a ++ rest)) ≡ false
    by_return p q r s true h = absurd (none 13 (eqb-true c 13 h) (no_return a))
    by_return p q r s false h = rw (p, q, r) (no_end s h (a ++ rest))

    by_feed : eqb c 32 ≡ false → eqb c 9 ≡ false → eqb c 35 ≡ false → (b : Bool) → eqb c 10 ≡ b → is_gap (c ∷ (a ++ rest)) ≡ false
    by_feed p q r true h = absurd (none 10 (eqb-true c 10 h) (no_feed a))
    by_feed p q r false h = by_return p q r h (eqb c 13) refl

    by_hash : eqb c 32 ≡ false → eqb c 9 ≡ false → (b : Bool) → eqb c 35 ≡ b → is_gap (c ∷ (a ++ rest)) ≡ false
    by_hash p q true h = absurd (none 35 (eqb-true c 35 h) (no_hash a))
    by_hash p q false h = by_feed p q h (eqb c 10) refl

    by_tab : eqb c 32 ≡ false → (b : Bool) → eqb c 9 ≡ b → is_gap (c ∷ (a ++ rest)) ≡ false
    by_tab p true h = absurd (none 9 (eqb-true c 9 h) (no_tab a))
    by_tab p false h = by_hash p h (eqb c 35) refl

    by_space : (b : Bool) → eqb c 32 ≡ b → is_gap (c ∷ (a ++ rest)) ≡ false
    by_space true h = absurd (none 32 (eqb-true c 32 h) (no_space a))
    by_space false h = by_tab h (eqb c 9) refl

-- a quote is none
pub quote_gap : (q : ℕ) (cs : Text) → is_quote q ≡ true → is_gap (q ∷ cs) ≡ false
quote_gap q cs h = by (eqb q 34) refl
  where
    double : (t : Text) → is_gap (34 ∷ t) ≡ false
    double [] = refl
    double (d ∷ t) = refl

    single : (t : Text) → is_gap (39 ∷ t) ≡ false
    single [] = refl
    single (d ∷ t) = refl

    other : eqb q 34 ≡ false → eqb q 39 ≡ true
    other e = grind (arith, nat_tests)

    by : (b : Bool) → eqb q 34 ≡ b → is_gap (q ∷ cs) ≡ false
    by true e = ap (λ (z : ℕ). is_gap (z ∷ cs)) (eqb-true q 34 e) ∙ double cs
    by false e = ap (λ (z : ℕ). is_gap (z ∷ cs)) (eqb-true q 39 (other e)) ∙ single cs

-- ---- one piece

pub at_gap : (at : Context) (bs : Text) (x : Next) → gap_at bs ≡ Some x → piece_at at bs ≡ Ok x
unfolding piece_at
at_gap at bs x h = rw h refl

pub at_no_gap : (at : Context) (bs : Text) → gap_at bs ≡ None → piece_at at bs ≡ token_piece at bs
unfolding piece_at
at_no_gap at bs h = rw h refl

pub at_tab : (at : Context) (c : ℕ) (cs : Text) → is_tabbed at.margin ≡ true → token_piece at (c ∷ cs) ≡ Err (fault.TabIndent (line_no at.line))
unfolding token_piece
at_tab at c cs h = rw h refl

-- why no lexeme stands at the front
abbrev pub broken : LineNo → ℕ → Text → LexFault
broken line c cs = cond (is_quote c) (cond (has_backslash c cs) (fault.BadChar line) (fault.Unclosed line)) (fault.BadChar line)

abbrev pub as_piece : Context → ℕ → Text → Option (Lexeme × Text) → Result Next LexFault
as_piece at c cs None = Err (broken (line_no at.line) c cs)
as_piece at c cs (Some l) = token_of (line_no at.line) l.0 l.1 >>= λ x. fitted at x l.1

as_is : (at : Context) (rest : Text) (r : Result Token LexFault) → ((r >>= λ (x : Token). ok (x, rest)) >>= λ (x : Token × Text). fitted at x.0 x.1) ≡ (r >>= λ (x : Token). fitted at x rest)
as_is at rest (Ok x) = refl
as_is at rest (Err f) = refl

string_is : (at : Context) (c : ℕ) (cs : Text) (o : Option (Text × Text)) → is_quote c ≡ true
    → (read_string (line_no at.line) c cs o >>= λ x. fitted at x.0 x.1) ≡ as_piece at c cs (as_quoted o)
string_is at c cs None h = rw h (by (has_backslash c cs))
  where
    by : (b : Bool) → ((cond b (unread (fault.BadChar (line_no at.line))) (unread (fault.Unclosed (line_no at.line)))) >>= λ (x : Token × Text). fitted at x.0 x.1)
        ≡ Err (cond b (fault.BadChar (line_no at.line)) (fault.Unclosed (line_no at.line)))
    by true = refl
    by false = refl
string_is at c cs (Some x) h = as_is at x.1 (token_of (line_no at.line) (quoted x.0) x.1)

sign_is : (at : Context) (c : ℕ) (cs : Text) (o : Option (Symbol × Text)) → is_quote c ≡ false
    → (read_sign (line_no at.line) o >>= λ x. fitted at x.0 x.1) ≡ as_piece at c cs (as_sign o)
sign_is at c cs None h = rw h refl
sign_is at c cs (Some x) h = as_is at x.1 (token_of (line_no at.line) (sign x.0) x.1)

token_is : (at : Context) (c : ℕ) (cs : Text) → Begins c → (read_token (line_no at.line) (c ∷ cs) >>= λ x. fitted at x.0 x.1) ≡ as_piece at c cs (lexeme_at (c ∷ cs))
unfolding read_token lexeme_at
token_is at c cs (name h) = rw h (as_is at (run continues_name (c ∷ cs)).1 (token_of (line_no at.line) (word (run continues_name (c ∷ cs)).0) (run continues_name (c ∷ cs)).1))
token_is at c cs (number s h) = rw (s, h) (as_is at (run is_digit (c ∷ cs)).1 (token_of (line_no at.line) (digits (run is_digit (c ∷ cs)).0) (run is_digit (c ∷ cs)).1))
token_is at c cs (string q s d) = rw (s, d, q) (string_is at c cs (string_at c cs) q)
token_is at c cs (other o) = let s = o.starts in let d = o.digit in let q = o.quote in rw (s, d, q) (sign_is at c cs (symbol_at (c ∷ cs)) q)

pub at_no_tab : (at : Context) (c : ℕ) (cs : Text) → is_tabbed at.margin ≡ false → token_piece at (c ∷ cs) ≡ as_piece at c cs (lexeme_at (c ∷ cs))
unfolding token_piece
at_no_tab at c cs h = rw h (token_is at c cs (begins c))

at_nothing : (at : Context) (x : Next) → token_piece at [] ≡ Ok x → ⊥
unfolding token_piece read_token
at_nothing at x e = by (is_tabbed at.margin) e
  where
    by : (b : Bool) → cond b (bad (fault.TabIndent (line_no at.line))) (bad (fault.BadChar (line_no at.line))) ≡ Ok x → ⊥
    by true e = cc
    by false e = cc

fitted_reads : (at : Context) (bs : Text) (l : Lexeme × Text) (x : Token) (y : Next) → is_tabbed at.margin ≡ false → Taken bs l → token_of (line_no at.line) l.0 l.1 ≡ Ok x → fitted at x l.1 ≡ Ok y → Reads at bs y
fitted_reads at bs l x y clean taken tok e =
    elim (chosen (fits x at.brackets) _ _ _ e) [
      | yes h go ↦ subst (λ (z : Next). Reads at bs z) (ok_is (k.Token x, l.1) y go) (record { text = taken.text; parts = taken.parts; is = g.token taken.text l.1 l.0 x clean taken.is tok h })
      | no h go ↦ absurd cc
    ]

as_piece_reads : (at : Context) (c : ℕ) (cs : Text) (o : Option (Lexeme × Text)) (y : Next) → is_tabbed at.margin ≡ false → lexeme_at (c ∷ cs) ≡ o → as_piece at c cs o ≡ Ok y → Reads at (c ∷ cs) y
as_piece_reads at c cs None y clean h e = bad_good (broken (line_no at.line) c cs) y e
as_piece_reads at c cs (Some l) y clean h e =
    let x = bind_ok (token_of (line_no at.line) l.0 l.1) (λ (x : Token). fitted at x l.1) y e in
    fitted_reads at (c ∷ cs) l x.0 y clean (lexeme_taken (c ∷ cs) l h) x.1 x.2

token_reads : (at : Context) (bs : Text) (y : Next) → token_piece at bs ≡ Ok y → Reads at bs y
token_reads at [] y e = absurd (at_nothing at y e)
token_reads at (c ∷ cs) y e = by (is_tabbed at.margin) refl
  where
    by : (b : Bool) → is_tabbed at.margin ≡ b → Reads at (c ∷ cs) y
    by true h = bad_good (fault.TabIndent (line_no at.line)) y (sym (at_tab at c cs h) ∙ e)
    by false h = as_piece_reads at c cs (lexeme_at (c ∷ cs)) y h refl (sym (at_no_tab at c cs h) ∙ e)

-- what is cut off is a piece
pub piece_reads : (at : Context) (bs : Text) (y : Next) → piece_at at bs ≡ Ok y → Reads at bs y
piece_reads at bs y e = by (gap_at bs) refl
  where
    by : (o : Option Next) → gap_at bs ≡ o → Reads at bs y
    by (Some x) h = subst (λ (z : Next). Reads at bs z) (ok_is x y (sym (at_gap at bs x h) ∙ e)) (gap_reads at bs x h)
    by None h = token_reads at bs y (sym (at_no_gap at bs h) ∙ e)

-- no front of a text that begins with another character than a quote is a lexeme, where none is cut off
no_front : (c : ℕ) (cs : Text) → is_quote c ≡ false → lexeme_at (c ∷ cs) ≡ None → (a rest : Text) → c ∷ cs ≡ a ++ rest → lexeme_of a ≡ None
no_front c cs q none [] rest parts = refl
no_front c cs q none (d ∷ a) rest parts =
    let same : c ≡ d = cc in
    no_lexeme (d ∷ a) rest (ap lexeme_at (sym parts) ∙ none) (no_quotes d a rest (ap is_quote (sym same) ∙ q))

as_quoted_none : (o : Option (Text × Text)) → as_quoted o ≡ None → o ≡ None
as_quoted_none (Some y) e = absurd cc
as_quoted_none None e = refl

broken_unread : (at : Context) (c : ℕ) (cs : Text) → is_gap (c ∷ cs) ≡ false → is_tabbed at.margin ≡ false → lexeme_at (c ∷ cs) ≡ None → Unread at (c ∷ cs) (broken (line_no at.line) c cs)
broken_unread at c cs gap clean none = by (is_quote c) refl
  where
    line : LineNo
    line = line_no at.line

    no_string : is_quote c ≡ true → string_at c cs ≡ None
    no_string q = as_quoted_none (string_at c cs) (sym (at_string c cs q) ∙ none)

    by_backslash : is_quote c ≡ true → (b : Bool) → has_backslash c cs ≡ b → Unread at (c ∷ cs) (cond b (fault.BadChar (line_no at.line)) (fault.Unclosed (line_no at.line)))
    by_backslash q true h = g.backslash c cs clean q (no_string q) h
    by_backslash q false h = g.unclosed c cs clean q (no_string q) h

    by : (b : Bool) → is_quote c ≡ b → Unread at (c ∷ cs) (cond b (cond (has_backslash c cs) (fault.BadChar (line_no at.line)) (fault.Unclosed (line_no at.line))) (fault.BadChar (line_no at.line)))
    by true q = by_backslash q (has_backslash c cs) refl
    by false q = g.bad_char c cs gap clean q (no_front c cs q none)

at_parts : (at : Context) (bs : Text) (l : Lexeme × Text) (f : LexFault) (k : Taken bs l) → Unread at (k.text ++ l.1) f → Unread at bs f
at_parts at bs l f k u = subst (λ (z : Text). Unread at z f) (sym k.parts) u

fitted_unread : (at : Context) (bs : Text) (l : Lexeme × Text) (x : Token) (f : LexFault) → is_tabbed at.margin ≡ false → Taken bs l → token_of (line_no at.line) l.0 l.1 ≡ Ok x → fitted at x l.1 ≡ Err f → Unread at bs f
fitted_unread at bs l x f clean taken tok e =
    elim (chosen (fits x at.brackets) _ _ _ e) [
      | yes h go ↦ good_bad (k.Token x, l.1) f go
      | no h go ↦ subst (λ (z : LexFault). Unread at bs z) (bad_is (fault.BadChar (line_no at.line)) f go)
          (at_parts at bs l (fault.BadChar (line_no at.line)) taken (g.unmatched taken.text l.1 l.0 x clean taken.is tok h))
    ]

as_piece_unread : (at : Context) (c : ℕ) (cs : Text) (o : Option (Lexeme × Text)) (f : LexFault) → is_gap (c ∷ cs) ≡ false → is_tabbed at.margin ≡ false → lexeme_at (c ∷ cs) ≡ o → as_piece at c cs o ≡ Err f → Unread at (c ∷ cs) f
as_piece_unread at c cs None f gap clean h e =
    subst (λ (z : LexFault). Unread at (c ∷ cs) z) (bad_is (broken (line_no at.line) c cs) f e) (broken_unread at c cs gap clean h)
as_piece_unread at c cs (Some l) f gap clean h e =
    let taken = lexeme_taken (c ∷ cs) l h in
    elim (bind_err (token_of (line_no at.line) l.0 l.1) (λ (x : Token). fitted at x l.1) f e) [
      | here tok ↦ at_parts at (c ∷ cs) l f taken (g.no_token taken.text l.1 l.0 f clean taken.is tok)
      | later x tok go ↦ fitted_unread at (c ∷ cs) l x f clean taken tok go
    ]

token_unread : (at : Context) (c : ℕ) (cs : Text) (f : LexFault) → is_gap (c ∷ cs) ≡ false → token_piece at (c ∷ cs) ≡ Err f → Unread at (c ∷ cs) f
token_unread at c cs f gap e = by (is_tabbed at.margin) refl
  where
    by : (b : Bool) → is_tabbed at.margin ≡ b → Unread at (c ∷ cs) f
    by true h = subst (λ (z : LexFault). Unread at (c ∷ cs) z) (bad_is (fault.TabIndent (line_no at.line)) f (sym (at_tab at c cs h) ∙ e)) (g.tab_indent c cs gap h)
    by false h = as_piece_unread at c cs (lexeme_at (c ∷ cs)) f gap h refl (sym (at_no_tab at c cs h) ∙ e)

-- where none is cut off, nothing can be read
pub piece_unread : (at : Context) (c : ℕ) (cs : Text) (f : LexFault) → piece_at at (c ∷ cs) ≡ Err f → Unread at (c ∷ cs) f
piece_unread at c cs f e = by (gap_at (c ∷ cs)) refl
  where
    by : (o : Option Next) → gap_at (c ∷ cs) ≡ o → Unread at (c ∷ cs) f
    by (Some x) h = good_bad x f (sym (at_gap at (c ∷ cs) x h) ∙ e)
    by None h = token_unread at c cs f (gap_none (c ∷ cs) h) (sym (at_no_gap at (c ∷ cs) h) ∙ e)
