-- Want of memory is no fault of a text's lines.
use Rattle.std.proofs.Common.{◌≡◌, ◌≢◌, ◌||◌, ℕ, Bool, true, false, Option, Some, None, List, Result, Ok, Err, subst}
use Rattle.std.specs.Prelude.{if◌then◌else◌}
use Rattle.gp_base.specs.declared.name.LineNo.{LineNo}
use Rattle.gp_lex.specs.declared.fault.LexFault.{LexFault}
use Rattle.gp_lex.specs.declared.fault.LexFault.TheVariants as fault
use Rattle.gp_lex.specs.declared.context.Context.{Context}
use Rattle.gp_lex.specs.declared.token.Keyword.{Keyword}
use Rattle.gp_lex.specs.declared.token.Token.{Token}
use Rattle.gp_lex.specs.Chars.{Text}
use Rattle.gp_lex.specs.Lines.{HasFault}
use Rattle.gp_lex.specs.Lines as lines
use Rattle.gp_lex.specs.Pieces.{Faulty, Unread}
use Rattle.gp_lex.specs.Pieces as pieces
use Rattle.gp_lex.specs.Tokens.{Lexeme, token_of, word_token}
use Rattle.gp_lex.specs.Tokens as lexeme

abbrev IsOfLines : {A : Type 0} → Result A LexFault → Type 0
IsOfLines (Ok x) = Unit {0}
IsOfLines (Err f) = f ≢ fault.Memory

else_fault : {A : Type 0} (b : Bool) (x : A) (f : LexFault) → f ≢ fault.Memory → IsOfLines {A = A} (if b then Ok x else Err f)
else_fault true x f h = tt
else_fault false x f h = h

then_fault : {A : Type 0} (b : Bool) (x : A) (f : LexFault) → f ≢ fault.Memory → IsOfLines {A = A} (if b then Err f else Ok x)
then_fault true x f h = h
then_fault false x f h = tt

word_is : (n : LineNo) (cs : Text) (k : Option Keyword) → IsOfLines (word_token n cs k)
word_is n cs (Some k) = tt
word_is n cs None = else_fault _ _ (fault.NotNfkc n) (λ e. cc)

token_is : (n : LineNo) (l : Lexeme) (rest : Text) → IsOfLines (token_of n l rest)
token_is n (lexeme.word cs) rest = word_is n cs _
token_is n (lexeme.digits cs) rest = then_fault _ _ (fault.BadNumber n) (λ e. cc)
token_is n (lexeme.quoted cs) rest = tt
token_is n (lexeme.sign s) rest = tt

unread_is : (at : Context) {rest : Text} {f : LexFault} → Unread at rest f → f ≢ fault.Memory
unread_is at (pieces.tab_indent c cs gap tabbed) = λ e. cc
unread_is at (pieces.no_token a rest l f clean is bad) = subst (λ (r : Result Token LexFault). IsOfLines r) bad (token_is (pieces.line_no at.line) l rest)
unread_is at (pieces.unmatched a rest l x clean is good fit) = λ e. cc
unread_is at (pieces.bad_char c cs gap clean quote none) = λ e. cc
unread_is at (pieces.backslash q cs clean quote none some) = λ e. cc
unread_is at (pieces.unclosed q cs clean quote none some) = λ e. cc

faulty_is : {at : Context} {rest : Text} {f : LexFault} → Faulty at rest f → f ≢ fault.Memory
faulty_is (pieces.here at rest f u) = unread_is at u
faulty_is (pieces.bracket at b bs stays) = λ e. cc
faulty_is (pieces.later at a kind rest f piece more) = faulty_is more

pub not_memory : {bytes : List ℕ} {f : LexFault} → HasFault bytes f → f ≢ fault.Memory
not_memory (lines.not_utf8 bad) = λ e. cc
not_memory (lines.in_text f text faulty) = faulty_is faulty
