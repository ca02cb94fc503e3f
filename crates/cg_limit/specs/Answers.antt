-- What a call answers, beside what a definition says.
use Rattle.std.specs.Prelude.{◌≡◌, ◌⊎◌, Result, Ok, Err}

-- an answer, seen by view, is what was given; a fault that stands for want of memory may come in place of any
abbrev pub OrNoMemory : {A B F : Type 0} → F → (A → B) → Result A F → Result B F → Type 0
OrNoMemory no_memory view (Ok answer) given = given ≡ Ok (view answer)
OrNoMemory no_memory view (Err fault) given = (fault ≡ no_memory) ⊎ (given ≡ Err fault)
