-- What is due for a text.
use Rattle.std.proofs.Common.{◌≡◌, ℕ, ◌+◌, ◌<◌, ◌≤◌, List, [], ◌∷◌, length, Result, refl, sym, ap, ◌∙◌, arith, length-append, lit<}
use Rattle.std.specs.Prelude.{Vec}
use Rattle.std.specs.declared.alloc.Global.{Global}
use Rattle.gp_lower.specs.declared.thin_text.ThinLine.{ThinLine}
use Rattle.gp_lower.specs.declared.thin_text.ThinLine.TheVariants as line
use Rattle.gp_lower.specs.ThinText.{line_text, lines_text, thin_head, thin_text}
use Rattle.gp_lower.proofs.ThinLemmas.{one_reading}
use Rattle.hg_graph.specs.Thin.{ThinGate, thin_graph}
use Rattle.gp_lower.specs.Thin.{gate_lines, complete_lines}
use Rattle.guppy_call.specs.declared.mode_error.ModeError.{ModeError}
use Rattle.guppy_call.specs.declared.refusal.Refusal.TheVariants.{NotBuilt}
use Rattle.guppy_call.specs.Call.{Answer, refused, done}
use Rattle.guppy_call.specs.Compile.{IsThin, IsNotThin, spent_lines, given_up_at, held_at_return_at, IsDue, too_long, not_built, given_up, held_at_return, compiled}
use Rattle.hg_json.specs.GraphText.{json}
use Rattle.guppy_call.specs.Made.{Makes}

-- a text that isn't thin is refused as such
pub due-not_thin : (text : List ℕ) → IsNotThin text → (answer : Answer) → IsDue text answer → answer ≡ refused NotBuilt
due-not_thin text n answer (too_long long) = absurd (omega (arith, n.within))
due-not_thin text n answer (not_built m) = refl
due-not_thin text n answer (given_up gates next more t) = absurd (n.other _ t.spelled)
due-not_thin text n answer (held_at_return gates t) = absurd (n.other _ t.spelled)
due-not_thin text n answer (compiled gates t) = absurd (n.other _ t.spelled)

-- what is due for a thin text follows from its lines
pub due-thin : (text : List ℕ) (lines : List ThinLine) (result : Result (Vec ℕ Global) ModeError) → IsThin text lines
    → ((gates : List ThinGate) (next : ThinLine) (more : List ThinLine) → lines ≡ spent_lines gates next more → Makes result (refused (given_up_at (8 + length gates))))
    → ((gates : List ThinGate) → lines ≡ gate_lines gates → Makes result (refused (held_at_return_at 5)))
    → ((gates : List ThinGate) → lines ≡ complete_lines gates → Makes result (done (json (thin_graph gates))))
    → (answer : Answer) → IsDue text answer → Makes result answer
due-thin text lines result t spent held complete answer (too_long long) = absurd (omega (arith, t.within))
due-thin text lines result t spent held complete answer (not_built n) = absurd (n.other lines t.spelled)
due-thin text lines result t spent held complete answer (given_up gates next more u) = spent gates next more (one_reading _ _ (sym t.spelled ∙ u.spelled))
due-thin text lines result t spent held complete answer (held_at_return gates u) = held gates (one_reading _ _ (sym t.spelled ∙ u.spelled))
due-thin text lines result t spent held complete answer (compiled gates u) = complete gates (one_reading _ _ (sym t.spelled ∙ u.spelled))

some_text : (first : ThinLine) → 0 < length (line_text first)
some_text line.H = lit< tt
some_text line.X = lit< tt
some_text line.Discard = lit< tt

length-lines_text : (lines : List ThinLine) → length lines ≤ length (lines_text lines)
length-lines_text [] = omega arith
length-lines_text (first ∷ lines) = omega (arith, length-append (line_text first) (lines_text lines), some_text first, length-lines_text lines)

-- a text has no more lines than bytes
pub length-thin_text : (text : List ℕ) (lines : List ThinLine) (limit : ℕ) → text ≡ thin_text lines → length text ≤ limit → length lines ≤ limit
length-thin_text text lines limit e within =
    let whole = ap length e ∙ length-append thin_head (lines_text lines) in
    omega (arith, length-lines_text lines)
