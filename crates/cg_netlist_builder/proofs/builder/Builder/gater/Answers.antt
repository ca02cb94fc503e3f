use Rattle.cg_netlist_builder.proofs.builder.Builder.gater.Goals as goal

pub take-requires : goal.take-requires
take-requires c = record { named = c.requires.nets; fits = (c.pins-pins.ensures.cell, c.requires.kind, c.requires.test) }
