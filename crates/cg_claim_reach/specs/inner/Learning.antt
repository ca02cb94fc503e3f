-- Readers that are noted.
use Rattle.std.specs.Prelude.{◌≡◌, ℕ, true, List}
use Rattle.cg_net.specs.NetSets.{is_in}
use Rattle.cg_machine.specs.Machine.{MachineData}
use Rattle.cg_claim_reach.specs.Fanout.{Knows, readers_at}
use Rattle.cg_claim_reach.specs.declared.tables.Tables.{Tables}
use Rattle.cg_claim_reach.specs.inner.Spreading.{AreCellReaders, AreOutputReaders, AreRegisterReaders}

-- all readers of before are there still
abbrev pub Keeps : List (List ℕ) → List (List ℕ) → Type 0
Keeps before after = (y k : ℕ) → is_in (readers_at before y) k ≡ true → is_in (readers_at after y) k ≡ true

-- the readers of a machine's nets are all there
pub record KnowsAll (m : MachineData) (f : Tables) : Type 0 where
  pub knows : Knows m f
  pub cells : AreCellReaders m f.cells
  pub outputs : AreOutputReaders m f.outputs
  pub registers : AreRegisterReaders m f.registers
