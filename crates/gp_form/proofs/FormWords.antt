-- Single tokens at the front.
use Rattle.std.proofs.Common.{◌≡◌, ℕ, Bool, true, false, bytes_eq, List, [], ◌∷◌, Some, refl, ap, ◌∙◌}
use Rattle.std.proofs.lemmas.Slice.Eq.{bytes_eq-Decides}
use Rattle.gp_lex.specs.declared.token.Token.{Token}
use Rattle.gp_lex.specs.declared.token.Token.TheVariants as t
use Rattle.gp_lex.specs.declared.token.Symbol.TheVariants as s
use Rattle.gp_form.specs.declared.list_end.ListEnd.TheVariants as until
use Rattle.gp_form.specs.code.Steps.{if_same}
use Rattle.gp_form.specs.code.Reading.{past_end}
use Rattle.gp_form.specs.code.FormReading.{past_soft_word, nothing, past_string}
use Rattle.gp_form.proofs.StepLemmas.{some_is, symbol_is}

if_same_is : (b : Bool) (ts rest : List Token) → if_same b ts ≡ Some rest → (b ≡ true) × (ts ≡ rest)
if_same_is true ts rest e = (refl, some_is ts rest e)
if_same_is false ts rest e = absurd cc

pub text_is : (text : List ℕ) (ts rest : List Token) → past_soft_word text ts ≡ Some rest → ts ≡ t.Name text ∷ rest
unfolding past_soft_word
text_is text [] rest e = absurd cc
text_is text (t.Name n ∷ ts) rest e =
    let h = if_same_is (bytes_eq n text) ts rest e in
    let same : n ≡ text = (bytes_eq-Decides n text).0 h.0 in
    ap (λ (z : List ℕ). t.Name z ∷ ts) same ∙ ap (λ (z : List Token). t.Name text ∷ z) h.1
text_is text (t.Symbol y ∷ ts) rest e = absurd cc
text_is text (t.Keyword y ∷ ts) rest e = absurd cc
text_is text (t.Number y ∷ ts) rest e = absurd cc
text_is text (t.Text y ∷ ts) rest e = absurd cc

pub this_text : (text : List ℕ) (rest : List Token) → past_soft_word text (t.Name text ∷ rest) ≡ Some rest
unfolding past_soft_word
this_text text rest = let same : bytes_eq text text ≡ true = (bytes_eq-Decides text text).1 refl in rw same refl

pub nothing_is : (ts rest : List Token) → nothing ts ≡ Some rest → (ts ≡ []) × (rest ≡ [])
unfolding past_end
nothing_is [] rest e = (refl, cc)
nothing_is (x ∷ ts) rest e = absurd cc

pub paren_is : (ts rest : List Token) → past_end until.Paren ts ≡ Some rest → ts ≡ t.Symbol s.RightParen ∷ rest
unfolding past_end
paren_is ts rest e = symbol_is s.RightParen ts rest e

pub string_is : (ts rest : List Token) → past_string ts ≡ Some rest → (text : List ℕ) × (ts ≡ t.Text text ∷ rest)
unfolding past_string
string_is [] rest e = absurd cc
string_is (t.Text n ∷ ts) rest e = (n, cc)
string_is (t.Symbol y ∷ ts) rest e = absurd cc
string_is (t.Keyword y ∷ ts) rest e = absurd cc
string_is (t.Number y ∷ ts) rest e = absurd cc
string_is (t.Name y ∷ ts) rest e = absurd cc
