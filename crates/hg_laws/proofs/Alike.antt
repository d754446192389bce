-- The same is seen of a run under whatever picks.
use Rattle.std.proofs.Common.{◌≡◌, ℕ, ◌+◌, ◌<◌, ◌≤◌, List, [], ◌∷◌, ◌++◌, length, Option, Some, None, refl, sym, ap, ◌∙◌, subst, arith}
use Rattle.std.specs.Prelude.{slice_get}
use Rattle.gp_base.specs.Run.{Run, Out, Returned, Stopped, Stuck, ◌>>=◌, ret, stop}
use Rattle.gp_base.specs.World.{World, take_turn}
use Rattle.hg_ops.specs.GraphType.{sum_type, function_type}
use Rattle.hg_ops.specs.Op.{Op, Types, FuncDefn, Const, Dfg, Cfg, Conditional, TailLoop, Call, CallIndirect, LoadConstant, LoadFunction, ins_of}
use Rattle.hg_graph.specs.Graph.{Graph, Port, op_at, feeder, static_input}
use Rattle.hg_graph.specs.Run.{Open, perform, State, no_note, on_world, Enter, at_node, at_port, with_variant, with_function, name_of_function, constant, after_turn, fire_op, world_out}
use Rattle.hg_graph.specs.Value.{Value, Int, Qubit, Variant, Function, callee, values, Functions, HasType, HaveTypes, functions}
use Rattle.hg_laws.proofs.Runs.{Gives, Giving, no_types, Shows, bind_shows, on_world_shows}
use Rattle.hg_laws.proofs.Values.{have-append, variant_row}
use Rattle.hg_laws.proofs.Named.{names_function}
use Rattle.hg_laws.proofs.Known.{Known}
use Rattle.hg_laws.proofs.Typed.{TypedEnter, entry_ins, option_same}

-- the plain runs, which write nothing down
abbrev pub Plain : Type 0
Plain = State (Unit {0})

abbrev pub Doing : Type 0
Doing = Run Plain (List Value)

abbrev pub at : World → List ℕ → Plain
at w picks = record { world = w; picks = picks; notes = tt }

-- what is seen of a run under no picks
abbrev pub seen : {A : Type 0} → Run Plain A → Run World A
seen m w = world_out (m (at w []))

pub record Alike {A : Type 0} (m n : Run Plain A) : Type 0 where
  pub alike : (w : World) (p q : List ℕ) → world_out (m (at w p)) ≡ world_out (n (at w q))

pub shown : {A : Type 0} (m n : Run Plain A) (d : Run World A) → Shows m d → Shows n d → Alike m n
shown m n d a b = record { alike = λ w p q. a.same (at w p) ∙ sym (b.same (at w q)) }

pub shows_right : {A : Type 0} (m n : Run Plain A) → Alike m n → Shows m (seen n)
shows_right m n a = record { same = λ s. a.alike s.world s.picks [] }

shows_itself : {A : Type 0} (m n : Run Plain A) → Alike m n → Shows n (seen n)
shows_itself m n a = record { same = λ s. sym (a.alike s.world [] s.picks) ∙ a.alike s.world [] [] }

giving_out : {A : Type 0} (Q : A → Type 0) (o : Out Plain A) → Giving Q o → Giving Q (world_out o)
giving_out Q (Returned a s) q = q
giving_out Q (Stopped e s) q = tt

pub seen_gives : {A : Type 0} (Q : A → Type 0) (m : Run Plain A) → Gives Q m → Gives Q (seen m)
seen_gives Q m g = record { gives = λ w. giving_out Q (m (at w [])) (g.gives (at w [])) }

pub then_alike : {A B : Type 0} (T : A → Type 0) (m n : Run Plain A) (k l : A → Run Plain B) → Gives T n → Alike m n → ((a : A) → T a → Alike (k a) (l a)) → Alike (m >>= k) (n >>= l)
then_alike T m n k l t a h =
    shown (m >>= k) (n >>= l) (seen n >>= (λ x. seen (l x)))
    (bind_shows T m (seen n) k (λ x. seen (l x)) (shows_right m n a) (seen_gives T n t) (λ x tx. shows_right (k x) (l x) (h x tx)))
    (bind_shows T n (seen n) l (λ x. seen (l x)) (shows_itself m n a) (seen_gives T n t) (λ x tx. shows_itself (k x) (l x) (h x tx)))

-- ---- runs that take no pick
pub world_alike : {A : Type 0} (m : Run World A) → Alike (on_world m) (on_world m)
world_alike m = shown (on_world m) (on_world m) m (on_world_shows m) (on_world_shows m)

pub ret_alike : {A : Type 0} (a : A) → Alike (ret a) (ret a)
ret_alike a = record { alike = λ w p q. refl }

pub stuck_alike : {A : Type 0} → Alike {A = A} (stop Stuck) (stop Stuck)
stuck_alike = record { alike = λ w p q. refl }

pub at_node_alike : (o : Option ℕ) (k l : ℕ → Doing) → ((n : ℕ) → o ≡ Some n → Alike (k n) (l n)) → Alike (at_node o k) (at_node o l)
at_node_alike None k l h = stuck_alike
at_node_alike (Some n) k l h = h n refl

pub at_port_alike : (o : Option Port) (k l : ℕ → Doing) → ((p : Port) → o ≡ Some p → Alike (k p.node) (l p.node)) → Alike (at_port o k) (at_port o l)
at_port_alike None k l h = stuck_alike
at_port_alike (Some p) k l h = h p refl

const_alike : (kind : Op) → Alike (constant kind) (constant kind)
const_alike (Const n) = ret_alike (Int n ∷ [])
const_alike _ = stuck_alike

pub variant_alike : (F : Functions) (vs : List Value) (rows : List Types) (ts : Types) (go go' : ℕ → List Value → Doing) → HaveTypes F vs (sum_type rows ∷ ts) → ((k : ℕ) (r : Types) (us : List Value) → slice_get rows k ≡ Some r → HaveTypes F us (r ++ ts) → Alike (go k us) (go' k us)) → Alike (with_variant vs go) (with_variant vs go')
variant_alike F [] rows ts go go' h f = absurd h
variant_alike F (Int n ∷ vs) rows ts go go' h f = absurd h.0
variant_alike F (Qubit n ∷ vs) rows ts go go' h f = absurd h.0
variant_alike F (Function n ∷ vs) rows ts go go' h f = absurd h.0
variant_alike F (Variant k us ∷ vs) rows ts go go' h f = let r = variant_row F rows k us h.0 in f k r.0 (values us ++ vs) r.1 (have-append F (values us) vs r.0 ts r.2 h.1)

function_alike : (F : Functions) (vs : List Value) (i o ts : Types) (go go' : List ℕ → List Value → Doing) → HaveTypes F vs (function_type i o ∷ ts) → ((name : List ℕ) (us : List Value) → HasType F (Function name) (function_type i o) → HaveTypes F us ts → Alike (go name us) (go' name us)) → Alike (with_function vs go) (with_function vs go')
function_alike F [] i o ts go go' h f = absurd h
function_alike F (Int n ∷ vs) i o ts go go' h f = absurd h.0
function_alike F (Qubit n ∷ vs) i o ts go go' h f = absurd h.0
function_alike F (Variant k us ∷ vs) i o ts go go' h f = absurd h.0
function_alike F (Function name ∷ vs) i o ts go go' h f = f name vs h.0 h.1

name_alike : (kind : Op) → Alike (name_of_function kind) (name_of_function kind)
name_alike (FuncDefn name i o) = ret_alike (Function name ∷ [])
name_alike _ = stuck_alike

-- under whatever regions and picks
pub record AlikeEnter (g : Graph) (depth : ℕ) (E : Enter (Unit {0})) : Type 0 where
  pub alike : (outer outer' : List Open) (n : ℕ) (vs : List Value) → n < length g.nodes → length g.nodes ≤ depth + n → HaveTypes (functions g) vs (entry_ins (op_at g n)) → Alike (E outer n vs) (E outer' n vs)

module _ (g : Graph) (V : Known g) (inside again : Enter (Unit {0})) (TI : TypedEnter g inside) (TA : TypedEnter g again) (D : ℕ) (AI : AlikeEnter g D inside) (AA : AlikeEnter g (length g.nodes) again) where
  pub inside_alike : (outer outer' : List Open) (n : ℕ) (vs : List Value) (kind : Op) → op_at g n ≡ kind → n < length g.nodes → length g.nodes ≤ D + n → HaveTypes (functions g) vs (entry_ins kind) → Alike (inside outer n vs) (inside outer' n vs)
  inside_alike outer outer' n vs kind e l d h = AI.alike outer outer' n vs l d (subst (λ x. HaveTypes (functions g) vs (entry_ins x)) (sym e) h)

  pub again_alike : (outer outer' : List Open) (n : ℕ) (vs : List Value) (kind : Op) → op_at g n ≡ kind → n < length g.nodes → HaveTypes (functions g) vs (entry_ins kind) → Alike (after_turn again outer n vs) (after_turn again outer' n vs)
  again_alike outer outer' n vs kind e l h = then_alike (λ _. Unit {0}) (on_world take_turn) (on_world take_turn) (λ _. again outer n vs) (λ _. again outer' n vs) (no_types _) (world_alike take_turn) (λ _ _. AA.alike outer outer' n vs l (omega arith) (subst (λ x. HaveTypes (functions g) vs (entry_ins x)) (sym e) h))

  pub fire_alike : (outer outer' : List Open) (n : ℕ) (vs : List Value) (kind : Op) → op_at g n ≡ kind → n < length g.nodes → length g.nodes ≤ D + n → HaveTypes (functions g) vs (ins_of kind) → Alike (fire_op no_note g inside again kind outer n vs) (fire_op no_note g inside again kind outer' n vs)
  unfolding fire_op
  fire_alike outer outer' n vs (Dfg i o) e l d h = inside_alike outer outer' n vs (Dfg i o) e l d h
  fire_alike outer outer' n vs (Conditional r i o) e l d h = inside_alike outer outer' n vs (Conditional r i o) e l d h
  fire_alike outer outer' n vs (TailLoop a b r) e l d h = inside_alike outer outer' n vs (TailLoop a b r) e l d h
  fire_alike outer outer' n vs (Cfg i o) e l d h = inside_alike outer outer' n vs (Cfg i o) e l d h
  fire_alike outer outer' n vs (Call i o) e l d h =
      let c = V.calls n i o l e in
      at_port_alike (feeder g.links (static_input g n)) _ _ (λ f q.
      let same : c.0 ≡ f = option_same (feeder g.links (static_input g n)) c.0 f c.2 q in
      again_alike outer outer' f.node vs (FuncDefn c.1 i o) (ap (λ x. op_at g x.node) (sym same) ∙ c.4) (subst (λ x. x.node < length g.nodes) same c.3) h)
  fire_alike outer outer' n vs (CallIndirect i o) e l d h =
      function_alike (functions g) vs i o i _ _ h (λ name us t ts.
      let c = names_function g name i o t in
      at_node_alike (callee g i o name) _ _ (λ f q.
      let same : c.place ≡ f = option_same (callee g i o name) c.place f c.found q in
      again_alike outer outer' f us (FuncDefn c.name i o) (ap (op_at g) (sym same) ∙ c.is_function) (subst (λ x. x < length g.nodes) same c.is_node) ts))
  fire_alike outer outer' n vs (LoadFunction i o) e l d h = at_port_alike (feeder g.links (static_input g n)) _ _ (λ f q. name_alike (op_at g f.node))
  fire_alike outer outer' n vs LoadConstant e l d h = at_port_alike (feeder g.links (static_input g n)) _ _ (λ c q. const_alike (op_at g c.node))
  fire_alike outer outer' n vs kind e l d h = world_alike (perform kind vs)
