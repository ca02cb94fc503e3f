-- The refusal for what a reading was given up for.
use Rattle.cg_liberty_group.specs.declared.fault.ReadFault.{ReadFault}
use Rattle.cg_liberty_group.specs.declared.fault.ReadFault.TheVariants as reads
use Rattle.cg_liberty.specs.Library.{text_refusal}
use Rattle.cg_liberty.specs.declared.fault.LibertyFault.{LibertyFault}
use Rattle.cg_liberty.specs.declared.fault.LibertyFault.TheVariants as faults

abbrev pub read_refusal : ReadFault → LibertyFault
read_refusal (reads.Text fault) = text_refusal fault
read_refusal reads.NoMemory = faults.NoMemory
