use Rattle.std.proofs.Common.{◌≡◌, drop, map}
use Rattle.cg_run.specs.Names.{file_of, file_seen, name_of}
use Rattle.cg_run.proofs.names.Names.name_of.Given as goal

-- none of the files so far is the role's
abbrev pub invariant-files : goal.invariant-files
invariant-files l = file_of (map file_seen (drop l.file-index l.self.files.items)) l.role ≡ name_of l.self l.role
