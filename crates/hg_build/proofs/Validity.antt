-- A graph in which nothing is due is valid.
use Rattle.std.proofs.Common.{◌≡◌, ◌⊎◌, inl, inr, ⊎_elim, ℕ, ◌<◌, Bool, true, false, [], length, Some, slice_get, refl, sym, ap, ◌∙◌, arith}
use Rattle.hg_ops.specs.Op.{Op, Output, Call, LoadConstant, LoadFunction, PortKind, output_ports}
use Rattle.hg_graph.specs.Graph.{Graph, Ports, Order, op_at}
use Rattle.hg_graph.specs.Valid.{Rule, Keeps, Places, Children, Boundaries, Blocks, Cases, Links, Inputs, LinearOutputs, SameParent, NoCycle, Successors, StaticLinks, Callees, Names, VariantsAndTags, KeepsStatic, KeepsCallee, of_child, Path, edge, joined, Edge, along_value, along_order, is_output}
use Rattle.hg_build.specs.Drawn.{Drawn, StaticAt}
use Rattle.hg_build.specs.Containing.{DrawnIsValid}
use Rattle.hg_build.proofs.Linear.{none_pend}

no_outputs : (o : Op) → is_output o ≡ true → output_ports o ≡ []
no_outputs (Output types) e = refl
no_outputs _ e = absurd (wrong e)
  where
    wrong : false ≡ true → ⊥
    wrong e = cc

both : (b : Bool) → b ≡ true → b ≡ false → ⊥
both b t f = cc

none_at : (k : ℕ) (kind : PortKind) → slice_get [] k ≡ Some kind → ⊥
none_at k kind e = cc

module _ (g : Graph) (d : Drawn g [] []) where
  edge_starts : (a b : ℕ) → Edge g a b → is_output (op_at g a) ≡ true → ⊥
  edge_starts a b (along_value p q i lq) out =
      let j = (d.joins b (d.graph.links (Ports (record { node = a; index = p }) (record { node = b; index = q })) i).1).ports (record { node = a; index = p }) (record { node = b; index = q }) i refl in
      none_at p j.kind (ap (λ ps. slice_get ps p) (sym (no_outputs (op_at g a) out)) ∙ j.output)
  edge_starts a b (along_order i) out =
      both (is_output (op_at g a)) out ((d.joins b (d.graph.links (Order a b) i).1).orders a i).no_output

  path_starts : (a b : ℕ) → Path g a b → is_output (op_at g a) ≡ true → ⊥
  path_starts a b (edge e) out = edge_starts a b e out
  path_starts a c (joined {b = b} x y) out = path_starts a b x out

  path_rises : (a b : ℕ) → Path g a b → (a < b) ⊎ (is_output (op_at g b) ≡ true)
  path_rises a b (edge e) = d.rises a b e
  path_rises a c (joined {b = b} x y) =
      ⊎_elim (λ l. ⊎_elim (λ m. inl (omega arith)) (λ o. inr o) (path_rises b c y)) (λ o. absurd (path_starts b c y o)) (path_rises a b x)

  no_cycle : (n : ℕ) → Path g n n → ⊥
  no_cycle n p = ⊎_elim (λ l. absurd (omega arith)) (λ o. path_starts n n p o) (path_rises n n p)

  static_kept : (n : ℕ) (kind : Op) → StaticAt g n kind → KeepsStatic g n kind
  static_kept n (Call ins outs) x = x.static
  static_kept n (LoadFunction ins outs) x = x.static
  static_kept n LoadConstant x = record { static = x.static; seen = of_child (sym x.beside) }
  static_kept n _ x = tt

  callee_kept : (n : ℕ) (kind : Op) → StaticAt g n kind → KeepsCallee g n kind
  callee_kept n (Call ins outs) x = x.callee
  callee_kept n (LoadFunction ins outs) x = x.callee
  callee_kept n _ x = tt

pub drawn_is_valid : DrawnIsValid
drawn_is_valid g d b c = record { graph = d.graph; keeps = kept }
  where
    kept : (rule : Rule) (n : ℕ) → n < length g.nodes → Keeps g rule n
    kept Places n l = d.places n l
    kept Children n l = d.suits n l
    kept Boundaries n l = λ e. c.contains.bounds n l e (λ x. x)
    kept Blocks n l = c.contains.blocks n l (λ x. x)
    kept Cases n l = c.contains.cases n l (λ x. x)
    kept Links n l = d.joins n l
    kept Inputs n l = d.fed n l (λ x. x)
    kept LinearOutputs n l = none_pend g b n l
    kept SameParent n l = d.inside n l
    kept NoCycle n l = no_cycle g d n
    kept Successors n l = c.contains.successors n l (λ x. x)
    kept StaticLinks n l = static_kept g d n (op_at g n) (d.statics n l (λ x. x))
    kept Callees n l = callee_kept g d n (op_at g n) (d.statics n l (λ x. x))
    kept Names n l = d.names n l
    kept VariantsAndTags n l = d.tags n l
