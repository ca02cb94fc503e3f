use Rattle.std.proofs.Common.{◌≡◌, drop}
use Rattle.std.specs.List.{filter_map, fold}
use Rattle.cg_verilog_text.specs.Meaning.{declared_init}
use Rattle.cg_verilog.specs.GivenInits.{with_init}
use Rattle.cg_verilog.proofs.telling.Telling.put_inits.Given as goal

abbrev pub invariant-registers : goal.invariant-registers
invariant-registers l = record {
  left : fold with_init l.self.inits (filter_map declared_init (drop l.register-index l.registers)) ≡ fold with_init l.fn.self.inits (filter_map declared_init l.registers);
  rest : l.self ≡ record l.fn.self { inits = l.self.inits };
}
