-- Functions in pieces.
use Rattle.std.proofs.Common.{◌≡◌, ◌∙◌, ap, sym, ℕ, List, Bool, true, false, ◌&&◌, not, Option, Some, None, Ok, Err, refl, is_some}
use Rattle.gp_tree.specs.Program.{FunctionDefinition}
use Rattle.gp_types.specs.Signature.{Signature}
use Rattle.gp_typing.specs.declared.fault.TypeFault.{TypeFault}
use Rattle.gp_typing.specs.declared.fault.TypeFault.TheVariants.{UnknownName, TooManyPlaces, MissingReturn}
use Rattle.gp_typing.specs.Checks.{Checked, ◌>>=◌, check, found}
use Rattle.gp_locals.specs.Environment.{Names, Environment, nothing_usable, is_within}
use Rattle.gp_typing.specs.code.FunctionView.{body_typing}
use Rattle.gp_typing.specs.Functions.{at_start, frame_of, function_typing, names_of, with_parameters, is_borrowed_among}
use Rattle.gp_scope.specs.Known.{Known}
use Rattle.gp_typing.specs.Statements.{Frame, BlockTyping, block_typing, block_of}
use Rattle.gp_typing.specs.Typed.{TypedBlock, TypedFunction}

abbrev pub whole : FunctionDefinition → Signature → TypedBlock → Checked TypedFunction
whole f s body = Ok (record { line = f.line; name = f.name; signature = s; body = body })

-- a function, with its body in one piece
abbrev pub function_in_pieces : Known → FunctionDefinition → Checked TypedFunction
function_in_pieces known f =
    found (known.signature_of f.name) (UnknownName f.line)
    >>= λ s. body_typing known (frame_of f s) f.line (at_start f s) f.body
    >>= λ body. whole f s body

pub function_goes : (known : Known) (f : FunctionDefinition) → function_typing known f ≡ function_in_pieces known f
unfolding function_typing
function_goes known f = go (known.signature_of f.name) where
  ended : (s : Signature) (b : BlockTyping) (w : Bool)
      → (check w (MissingReturn f.line) >>= λ _. whole f s (block_of b))
      ≡ ((check w (MissingReturn f.line) >>= λ _. Ok (block_of b)) >>= λ body. whole f s body)
  ended s b true = refl
  ended s b false = refl

  block : (s : Signature) (m : Checked BlockTyping) (w : Bool)
      → (check w (TooManyPlaces f.line) >>= λ _. m >>= λ b. check (not (is_some s.result && is_some b.ends.next)) (MissingReturn f.line) >>= λ _. whole f s (block_of b))
      ≡ ((check w (TooManyPlaces f.line) >>= λ _. m >>= λ b. check (not (is_some s.result && is_some b.ends.next)) (MissingReturn f.line) >>= λ _. Ok (block_of b)) >>= λ body. whole f s body)
  block s m false = refl
  block s (Err g) true = refl
  block s (Ok b) true = ended s b (not (is_some s.result && is_some b.ends.next))

  go : (o : Option Signature)
      → (found o (UnknownName f.line)
      >>= λ s. check (is_within (Some (at_start f s))) (TooManyPlaces f.line)
      >>= λ _. block_typing known (frame_of f s) (Some (at_start f s)) f.body
      >>= λ b. check (not (is_some s.result && is_some b.ends.next)) (MissingReturn f.line)
      >>= λ _. whole f s (block_of b))
      ≡ (found o (UnknownName f.line)
      >>= λ s. body_typing known (frame_of f s) f.line (at_start f s) f.body
      >>= λ body. whole f s body)
  go None = refl
  go (Some s) = block s (block_typing known (frame_of f s) (Some (at_start f s)) f.body) (is_within (Some (at_start f s)))

-- a function whose signature, names and beginning are known
module _ (known : Known) (f : FunctionDefinition) (s : Signature) (names : Names) (e : Environment)
    (its_signature : known.signature_of f.name ≡ Some s) (its_names : names ≡ names_of f s)
    (its_start : e ≡ with_parameters names (nothing_usable names) s.params) where
  abbrev frame_with : Names → Frame
  frame_with ns = record { names = ns; result = s.result; is_borrowed = is_borrowed_among s.params }

  abbrev body_from : Names → Environment → Checked TypedFunction
  body_from ns e = body_typing known (frame_with ns) f.line e f.body >>= λ body. whole f s body

  function_from : function_typing known f ≡ body_from names e
  function_from =
      function_goes known f
      ∙ ap (λ (o : Option Signature). found o (UnknownName f.line) >>= λ s. body_typing known (frame_of f s) f.line (at_start f s) f.body >>= λ body. whole f s body) its_signature
      ∙ ap (λ (ns : Names). body_from ns (with_parameters ns (nothing_usable ns) s.params)) (sym its_names)
      ∙ ap (λ (e : Environment). body_from names e) (sym its_start)

  pub function_err : (g : TypeFault) → body_typing known (frame_with names) f.line e f.body ≡ Err g → function_typing known f ≡ Err g
  function_err g h = function_from ∙ ap (λ (m : Checked TypedBlock). m >>= λ body. whole f s body) h

  pub function_ok : (body : TypedBlock) → body_typing known (frame_with names) f.line e f.body ≡ Ok body → function_typing known f ≡ whole f s body
  function_ok body h = function_from ∙ ap (λ (m : Checked TypedBlock). m >>= λ body. whole f s body) h

-- a function with this name and this signature
abbrev pub named_whole : FunctionDefinition → TypedBlock → List ℕ → Signature → Checked TypedFunction
named_whole f body name s = Ok (record { line = f.line; name = name; signature = s; body = body })

-- the same function, by copies of its name and of its signature
pub whole_copied : (f : FunctionDefinition) (s : Signature) (body : TypedBlock) (name : List ℕ) (its : Signature) → name ≡ f.name → its ≡ s
    → whole f s body ≡ named_whole f body name its
whole_copied f s body name its is_name is_its =
    ap (λ (n : List ℕ). named_whole f body n s) (sym is_name) ∙ ap (λ (t : Signature). named_whole f body name t) (sym is_its)
