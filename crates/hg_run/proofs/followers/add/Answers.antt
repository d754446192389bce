use Rattle.hg_run.proofs.Following.{more_seen}
use Rattle.hg_run.proofs.followers.add.Goals as goal

pub returns : goal.returns
returns c = more_seen (λ list. list.items) c.args.followers.now.lists.items c.args.from.0 c.index_mut.result.now c.push.new.self c.args.to c.requires c.index_mut.ensures.value c.in_ok-push.ensures.items
