use Rattle.hg_build.proofs.Blocks.{function_by}
use Rattle.hg_build.proofs.sample.one_block_function.Goals as goal

pub returns : goal.returns
returns c =
    function_by
    c.args.graph
    c.args.function.0
    c.in_ok-region.region
    c.cfg.new.self
    c.block.new.self
    c.block-2.new.self
    c.control.new.self
    c.in_ok-outer.inner
    c.op.new.self
    c.in_ok-region-2.region
    c.in_ok-outer.outer
    c.in_ok-cfg.cfg.0
    c.in_ok-block.block.0
    c.in_ok-exit.exit.0
    c.new-types.result
    c.new.result
    c.new-2.result
    c.new-3.result
    c.new-4.result
    c.new-5.result
    c.new-types-2.result
    c.in_ok-one_row.field-0
    c.in_ok-rows.rows
    c.in_ok-region.wires.items.items
    c.in_ok-cfg.outs.items.items
    c.in_ok-outer.wires.items.items
    c.in_ok-outs.outs.items.items
    c.new-6.result.items.items
    c.in_ok-graph.graph
    c.new-types.ensures
    c.new.ensures
    c.new-2.ensures
    c.new-3.ensures
    c.new-4.ensures
    c.in_ok-one_row.ensures
    c.new-5.ensures
    c.new-types-2.ensures
    c.in_ok-rows.ensures
    c.new-6.ensures
    (record { exact = c.in_ok-region.ensures.exact; built = c.in_ok-region.ensures.built; pending = c.in_ok-region.ensures.pending; kept = c.in_ok-region.ensures.kept; contained = c.in_ok-region.ensures.contained; ordered = c.in_ok-region.ensures.ordered })
    (record { exact = c.in_ok-cfg.ensures.exact; built = c.in_ok-cfg.ensures.built; pending = c.in_ok-cfg.ensures.pending; kept = c.in_ok-cfg.ensures.kept; contained = c.in_ok-cfg.ensures.contained; ordered = c.in_ok-cfg.ensures.ordered; charted = c.in_ok-cfg.ensures.charted })
    (record { exact = c.in_ok-block.ensures.exact; built = c.in_ok-block.ensures.built; pending = c.in_ok-block.ensures.pending; kept = c.in_ok-block.ensures.kept; contained = c.in_ok-block.ensures.contained; ordered = c.in_ok-block.ensures.ordered; charted = c.in_ok-block.ensures.charted })
    (record { exact = c.in_ok-exit.ensures.exact; built = c.in_ok-exit.ensures.built; pending = c.in_ok-exit.ensures.pending; kept = c.in_ok-exit.ensures.kept; contained = c.in_ok-exit.ensures.contained; ordered = c.in_ok-exit.ensures.ordered; charted = c.in_ok-exit.ensures.charted })
    (record { exact = c.in_ok-control.ensures.exact; built = c.in_ok-control.ensures.built; pending = c.in_ok-control.ensures.pending; kept = c.in_ok-control.ensures.kept; contained = c.in_ok-control.ensures.contained; ordered = c.in_ok-control.ensures.ordered; charted = c.in_ok-control.ensures.charted })
    (record { exact = c.in_ok-outer.ensures.exact; built = c.in_ok-outer.ensures.built; pending = c.in_ok-outer.ensures.pending; kept = c.in_ok-outer.ensures.kept; contained = c.in_ok-outer.ensures.contained; ordered = c.in_ok-outer.ensures.ordered })
    (record { exact = c.in_ok-outs.ensures.exact; built = c.in_ok-outs.ensures.built; pending = c.in_ok-outs.ensures.pending; kept = c.in_ok-outs.ensures.kept; contained = c.in_ok-outs.ensures.contained; ordered = c.in_ok-outs.ensures.ordered })
    (record { exact = c.in_ok-region-2.ensures.exact; built = c.in_ok-region-2.ensures.built; pending = c.in_ok-region-2.ensures.pending; kept = c.in_ok-region-2.ensures.kept; contained = c.in_ok-region-2.ensures.contained; ordered = c.in_ok-region-2.ensures.ordered })
    (record { built = c.in_ok-graph.ensures.built; pending = c.in_ok-graph.ensures.pending; kept = c.in_ok-graph.ensures.kept; contained = c.in_ok-graph.ensures.contained; ordered = c.in_ok-graph.ensures.ordered })
