use Rattle.std.proofs.Common.{rules, ◌≡◌, [], true, false, is_some, sym, subst, ◌∙◌, bytes_eq, Some}
use Rattle.indexmap.specs.IndexMap.{get_by}
use Rattle.gp_tree.specs.Program.{program_items, struct_definition}
use Rattle.gp_scope.specs.Tables.{struct_at}
use Rattle.gp_scope.proofs.SearchSteps.{Search, search-step, search-skip, search-answers, no-struct, has-some, at-some}
use Rattle.gp_scope.proofs.cycles.holds_itself.Goals as goal

pub returns-then-not-contains_key : goal.returns-then-not-contains_key
returns-then-not-contains_key c =
    let missing : is_some (get_by (λ k. bytes_eq c.args.name.now k.now) c.args.names.now.structs) ≡ false = search rules in
    no-struct (program_items c.args.names.now.items.now) c.args.name.now (has-some (program_items c.args.names.now.items.now) c.args.names.now.structs c.requires.1 c.args.name.now ∙ missing)

pub loop-next-preserved-in-Continue-branch-3 : goal.loop-next-preserved-in-Continue-branch-3
loop-next-preserved-in-Continue-branch-3 c =
    let at : struct_at c.args.names.now.structs c.in-Some.next.now ≡ Some (struct_definition c.in-Some-get.decl.now.now) = search rules in
    search-step (program_items c.args.names.now.items.now) c.args.name.now c.loop-next.unseen c.reach_held.new.unseen c.pop.new.self.items c.reach_held.new.waiting.items
    c.in-Some.next (struct_definition c.in-Some-get.decl.now.now) (sym (c.requires.1 c.in-Some.next.now) ∙ at)
    (subst (λ w. Search (program_items c.args.names.now.items.now) c.args.name.now c.loop-next.unseen w) c.in-Some.ensures.items c.loop-next.invariant)
    c.in_ok-reach_held.ensures.seen c.in_ok-reach_held.ensures.waiting

pub loop-next-preserved : goal.loop-next-preserved
loop-next-preserved c =
    search-skip (program_items c.args.names.now.items.now) c.args.name.now c.loop-next.unseen c.pop.new.self.items c.in-Some.next (sym (c.requires.1 c.in-Some.next.now) ∙ search rules)
    (subst (λ w. Search (program_items c.args.names.now.items.now) c.args.name.now c.loop-next.unseen w) c.in-Some.ensures.items c.loop-next.invariant)

pub returns : goal.returns
returns c =
    let there : is_some (get_by (λ k. bytes_eq c.args.name.now k.now) c.args.names.now.structs) ≡ true = search rules in
    let ended : c.loop-next.waiting.items ≡ [] = search rules in
    search-answers (program_items c.args.names.now.items.now) c.args.name.now c.loop-next.unseen c.loop-next.waiting.items c.loop-next.invariant ended
    (has-some (program_items c.args.names.now.items.now) c.args.names.now.structs c.requires.1 c.args.name.now ∙ there)
    c.contains_key-2.result (c.contains_key-2.ensures ∙ sym (at-some c.loop-next.unseen c.args.name.now))
