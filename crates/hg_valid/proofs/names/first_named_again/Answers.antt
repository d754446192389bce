use Rattle.std.proofs.Common.{◌≡◌, ◌+◌, suc, ◌∙◌, sym, ap, subst, arith}
use Rattle.std.specs.Option.{is_some}
use Rattle.hg_graph.specs.Valid.{name_of}
use Rattle.hg_valid.proofs.Named.{AreNamed, finds, finds_more, named_again, pass_new, pass_unnamed}
use Rattle.hg_valid.proofs.names.first_named_again.Goals as goal
use Rattle.hg_valid.proofs.names.first_named_again.Goals.{in-Some+in_ok-insert+else-is_some, in_default}

pub returns-then-is_some : goal.returns-then-is_some
returns-then-is_some c =
    let found = ap is_some (sym c.in_ok-insert.ensures.old) ∙ sym c.if-is_some.ensures in
    named_again c.args.graph.now c.loop-n.n (finds c.loop-n.names) c.loop-n.invariant c.in-Some.name.now (ap name_of (sym c.op.ensures) ∙ sym c.in-Some.ensures) (omega arith) found

pub loop-n-preserved : goal.loop-n-preserved
loop-n-preserved c =
    let g = c.args.graph.now in
    let n = c.loop-n.n in
    let next : suc n ≡ n + 1 = omega arith in
    elim c.match-function_name.branch [
      | in-Some+in_ok-insert+else-is_some w ↦
          let name = w.in-Some.name.now in
          let more = finds_more name c.loop-n.names w.insert.new.self n w.in_ok-insert.ensures.updates in
          let fresh = ap is_some (sym w.in_ok-insert.ensures.old) ∙ sym w.if-is_some.ensures in
          subst (λ names. AreNamed g (n + 1) (finds names)) (sym w.names-is)
          (subst (λ k. AreNamed g k (finds w.insert.new.self)) next
          (pass_new g n (finds c.loop-n.names) c.loop-n.invariant name (ap name_of (sym c.op.ensures) ∙ sym w.in-Some.ensures) (finds w.insert.new.self) more fresh))
      | in_default w ↦
          subst (λ names. AreNamed g (n + 1) (finds names)) (sym w.names-is)
          (subst (λ k. AreNamed g k (finds c.loop-n.names)) next
          (pass_unnamed g n (finds c.loop-n.names) c.loop-n.invariant (ap name_of (sym c.op.ensures) ∙ sym w.in_default.ensures)))
    ]
