use Rattle.cg_insert.proofs.laws.insertion_laws.Goals as goal
use Rattle.cg_insert.proofs.Inserted.{insertion_is_formed, insertion_is_plain, insertion_is_right}

pub returns : goal.returns
returns c = record { formed = insertion_is_formed; right = insertion_is_right; plain = insertion_is_plain }
