-- The machine of a netlist, to which nothing is added yet.
use Rattle.std.specs.Prelude.{◌≡◌, IsTrue, ℕ, nat_eq, Bool, List, [], length, replicate, Option, None}
use Rattle.std.specs.List.{IsDistinct, position_from, starts_with}
use Rattle.cg_cell.specs.Name.{is_name}
use Rattle.cg_netlist.specs.Circuit.{Circuit}
use Rattle.cg_netlist.specs.Netlist.{IsNetlist}
use Rattle.cg_machine.specs.Machine.{MachineData}

-- no register has an enable, and nothing is added
abbrev pub machine_of : Circuit → List ℕ → MachineData
machine_of c prefix =
    record {
      circuit = c;
      enables = replicate (length c.registers) None;
      gates = [];
      own_cells = length c.cells;
      own_registers = length c.registers;
      prefix = prefix;
    }

-- a name begins with a prefix
abbrev pub begins : List ℕ → List ℕ → Bool
begins prefix name = starts_with nat_eq name prefix

-- the first name that begins with a prefix
abbrev pub first_clash : List ℕ → List (List ℕ) → Option ℕ
first_clash prefix names = position_from (begins prefix) 0 names

-- what a netlist and a prefix need for a machine: no output stands twice, there is no gating cell, and no net's name begins with
-- the prefix
pub record CanStart (c : Circuit) (prefix : List ℕ) : Type 0 where
  pub netlist : IsNetlist c
  pub outputs_once : IsDistinct nat_eq c.outputs
  pub no_gaters : c.gaters ≡ []
  pub named : IsTrue (is_name prefix)
  pub new : first_clash prefix c.names ≡ None
