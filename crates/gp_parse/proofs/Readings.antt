-- The reading of lines one by one, as a loop does it, and what it answers.
use Rattle.std.proofs.Common.{◌≡◌, ℕ, Bool, List, [], ◌∷◌, ◌++◌, Option, Some, None, Result, Ok, Err, refl, ap, ◌∙◌}
use Rattle.gp_base.specs.declared.name.LineNo.{LineNo}
use Rattle.gp_tree.specs.declared.program.Item.{Item}
use Rattle.gp_tree.specs.Program.{ProgramItem, program_items}
use Rattle.gp_parse.specs.declared.parse_fault.ParseFault.{ParseFault}
use Rattle.gp_parse.specs.declared.parse_fault.ParseFault.TheVariants as fault
use Rattle.gp_parse.specs.Nesting.{Line, Head, function_of}
use Rattle.gp_parse.specs.FirstFault.{Fault, nesting, too_deep, within}
use Rattle.gp_parse.specs.Nested.{IsFaultOf, IsNested}
use Rattle.gp_parse.specs.code.NestingMachine.{Opening, Frame, Blocks, closed, State, at_top, behind_function, step_at, step, ends_function, ends_at, goes_to, read, start}
use Rattle.gp_tree.specs.Statement.{Statement}
use Rattle.gp_parse.specs.code.NestingCode.{all_closed}
use Rattle.gp_parse.specs.code.NestingViews.{Follows, Leaves, LeavesState, LeavesItems}
use Rattle.gp_parse.proofs.NestingRest.{ok}
use Rattle.gp_parse.proofs.NestingRuns.{nests_of_read}
use Rattle.gp_parse.proofs.NestingPromises.{program_placed, annotated_rising}
use Rattle.gp_parse.proofs.NestingFaults.{fault_of_read, one_program, one_fault, never_both}

-- ---- faults that one call hands on from another

pub state_of_items : (e : ParseFault) (items more : List Item) (r : Result (List ProgramItem) Fault) (s : Result State Fault) → ((d : Fault) → r ≡ Err d → s ≡ Err d) → LeavesItems (Err e) items r → LeavesState (Err e) more s
state_of_items (fault.Nesting n) items more r s h f = h (nesting n) f
state_of_items (fault.TooDeep n) items more r s h f = h (too_deep n) f
state_of_items fault.Memory items more r s h f = tt
state_of_items (fault.TooBig n) items more r s h f = f
state_of_items (fault.NotALine n) items more r s h f = f

pub state_of_blocks : (e : ParseFault) (frames : List Frame) (items : List Item) (r : Result Blocks Fault) (s : Result State Fault) → ((d : Fault) → r ≡ Err d → s ≡ Err d) → Leaves (Err e) frames r → LeavesState (Err e) items s
state_of_blocks (fault.Nesting n) frames items r s h f = h (nesting n) f
state_of_blocks (fault.TooDeep n) frames items r s h f = h (too_deep n) f
state_of_blocks fault.Memory frames items r s h f = tt
state_of_blocks (fault.TooBig n) frames items r s h f = f
state_of_blocks (fault.NotALine n) frames items r s h f = f

pub state_of_view : {X Y : Type 0} (view : X → Y) (e : ParseFault) (items : List Item) (r : Result Y Fault) (s : Result State Fault) → ((d : Fault) → r ≡ Err d → s ≡ Err d) → Follows view (Err e) r → LeavesState (Err e) items s
state_of_view view (fault.Nesting n) items r s h f = h (nesting n) f
state_of_view view (fault.TooDeep n) items r s h f = h (too_deep n) f
state_of_view view fault.Memory items r s h f = tt
state_of_view view (fault.TooBig n) items r s h f = f
state_of_view view (fault.NotALine n) items r s h f = f

pub read_of_state : (e : ParseFault) (items : List Item) (r : Result State Fault) (s : Result (List ProgramItem) Fault) → ((d : Fault) → r ≡ Err d → s ≡ Err d) → LeavesState (Err e) items r → Follows {X = List Item} program_items (Err e) s
read_of_state (fault.Nesting n) items r s h f = h (nesting n) f
read_of_state (fault.TooDeep n) items r s h f = h (too_deep n) f
read_of_state fault.Memory items r s h f = tt
read_of_state (fault.TooBig n) items r s h f = f
read_of_state (fault.NotALine n) items r s h f = f

pub read_of_items : (e : ParseFault) (items : List Item) (r s : Result (List ProgramItem) Fault) → s ≡ r → LeavesItems (Err e) items r → Follows {X = List Item} program_items (Err e) s
read_of_items (fault.Nesting n) items r s h f = h ∙ f
read_of_items (fault.TooDeep n) items r s h f = h ∙ f
read_of_items fault.Memory items r s h f = tt
read_of_items (fault.TooBig n) items r s h f = f
read_of_items (fault.NotALine n) items r s h f = f

-- ---- a function's end

-- a line behind a function's blocks: the function ends, and the line stands at the top
pub behind_is : (h : Head) (items : List ProgramItem) (x : Line) (w : Option Opening) (xs : List Frame) → behind_function h items x w xs ≡ goes_to (ends_function h items x.number w xs) (λ more. at_top more x)
behind_is h items x (Some o) xs = refl
behind_is h items x None [] = refl
behind_is h items x None (y ∷ ys) = refl

-- a function ends with the statements of its outermost block
pub ends_some : (h : Head) (items : List ProgramItem) (n : LineNo) (xs : List Frame) (b : List Statement) → all_closed xs ≡ Some b → ends_function h items n None xs ≡ Ok (items ++ function_of h b ∷ [])
ends_some h items n [] b e = absurd cc
ends_some h items n (y ∷ ys) b e = let same : closed y ys ≡ b = cc in ap (λ (z : List Statement). ok (items ++ function_of h z ∷ [])) same

pub ends_none : (h : Head) (items : List ProgramItem) (n : LineNo) (xs : List Frame) → all_closed xs ≡ None → ends_function h items n None xs ≡ Err (nesting n)
ends_none h items n [] e = refl
ends_none h items n (y ∷ ys) e = absurd cc

-- ---- the loop

module _ (fits : ℕ → Bool) (s : State) (last : LineNo) (x : Line) (xs : List Line) (total : Result (List ProgramItem) Fault) where
  pub read_turn : (t : State) → total ≡ read fits s last (x ∷ xs) → step_at fits x s.items s.position ≡ Ok t → total ≡ read fits t x.number xs
  unfolding read step
  read_turn t so_far h = so_far ∙ ap (λ (r : Result State Fault). goes_to r (λ t. read fits t x.number xs)) h

  pub read_stop : (d : Fault) → total ≡ read fits s last (x ∷ xs) → step_at fits x s.items s.position ≡ Err d → total ≡ Err d
  unfolding read step
  read_stop d so_far h = so_far ∙ ap (λ (r : Result State Fault). goes_to r (λ t. read fits t x.number xs)) h

pub read_end : (fits : ℕ → Bool) (s : State) (last : LineNo) (total : Result (List ProgramItem) Fault) → total ≡ read fits s last [] → total ≡ ends_at s.items last s.position
unfolding read
read_end fits s last total so_far = so_far

-- ---- the answer

fault_answer : (lines : List Line) (n : LineNo) (d : Fault) → read (within 50) start n lines ≡ Err d → IsFaultOf lines d
fault_answer lines n d h = record {
  first = fault_of_read 50 refl lines n d h;
  only = λ other k. one_fault 50 refl lines other d k (fault_of_read 50 refl lines n d h);
  no_program = λ items k. never_both 50 refl lines items d k (fault_of_read 50 refl lines n d h);
}

pub nested : (lines : List Line) (n : LineNo) (result : Result (List Item) ParseFault) → Follows {X = List Item} program_items result (read (within 50) start n lines) → IsNested lines result
nested lines n (Ok items) h = record {
  nests = nests_of_read (within 50) refl lines n (program_items items) h;
  only = λ others k. one_program 50 refl lines others (program_items items) k (nests_of_read (within 50) refl lines n (program_items items) h);
  faultless = λ d k. never_both 50 refl lines (program_items items) d (nests_of_read (within 50) refl lines n (program_items items) h) k;
  placed = program_placed (nests_of_read (within 50) refl lines n (program_items items) h);
  rising = λ up. annotated_rising (nests_of_read (within 50) refl lines n (program_items items) h) up;
}
nested lines n (Err (fault.Nesting m)) h = fault_answer lines n (nesting m) h
nested lines n (Err (fault.TooDeep m)) h = fault_answer lines n (too_deep m) h
nested lines n (Err fault.Memory) h = tt
nested lines n (Err (fault.TooBig m)) h = h
nested lines n (Err (fault.NotALine m)) h = h
