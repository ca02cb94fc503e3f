-- What the lines that are left of a text tell, where some lines were read: what they told, but for the cover of a `.names` line
-- that the next line may add a row to.
use Rattle.std.specs.Prelude.{Bool, List, [], ◌∷◌, ◌++◌, length, Option, None, Some, Result, Ok, Err}
use Rattle.cg_cell.specs.Cell.{CellData}
use Rattle.cg_cell.specs.Cover.{CoverData}
use Rattle.cg_text.specs.declared.lines.Line.{Line}
use Rattle.cg_netlist.specs.declared.parts.LogicFunction.TheVariants.{Cover}
use Rattle.cg_netlist_parts.specs.Part.{Part, Logic}
use Rattle.cg_netlist_parts.specs.Said.{Said}
use Rattle.cg_blif_text.specs.declared.fault.BlifFault.{BlifFault}
use Rattle.cg_blif_text.specs.declared.fault.LineFault.{LineFault}
use Rattle.cg_blif_text.specs.declared.statement.Statement.{Statement}
use Rattle.cg_blif_text.specs.declared.statement.Statement.TheVariants.{Names}
use Rattle.cg_blif_text.specs.Blocks.{cut}
use Rattle.cg_blif_text.specs.OpenCovers.{CoverSoFar, cover_so_far}
use Rattle.cg_blif_text.specs.Rows.{cover_from}
use Rattle.cg_blif_text.specs.Telling.{LinesSaid, cover_or_none, go_on, no_rows, said_by, tell_blocks, tell_cut, tell_parts, with_parts}
use Rattle.cg_blif_text.specs.Telling.{with_said}

-- rows in front of a cover
abbrev pub put_rows : List (List (Option Bool)) → Result CoverData BlifFault → Result CoverData BlifFault
put_rows rows (Ok cover) = Ok (record cover { rows = rows ++ cover.rows })
put_rows rows (Err fault) = Err fault

-- the cover of the rows so far and of these lines
abbrev pub covered : CoverSoFar → List Line → Result CoverData BlifFault
covered o rows = put_rows o.rows (cover_from (length o.inputs) rows o.on)

-- the logic cell of an open cover
abbrev pub cover_part : CoverSoFar → CoverData → Part
cover_part o cover = Logic (record { inputs = o.inputs; output = o.output; function = Cover cover })

-- what is told behind an open cover whose rows are this cover
abbrev pub close_with : LinesSaid → CoverSoFar → Result CoverData BlifFault → Result LinesSaid BlifFault
close_with told o cover =
    tell_parts told 0 (Names o.inputs o.output) cover (with_parts (cover_part o (cover_or_none cover) ∷ []) told.said)

-- what is told where an open cover, if there is one, gets no further row
abbrev pub closed : LinesSaid → Option CoverSoFar → Result LinesSaid BlifFault
closed told None = Ok told
closed told (Some o) = close_with told o (Ok (cover_so_far o))

abbrev pub closed_said : Said → Option CoverSoFar → Result Said LineFault
closed_said s None = Ok s
closed_said s (Some o) = with_parts (cover_part o (cover_so_far o) ∷ []) s

-- what the lines that are left tell
abbrev pub resume : List CellData → LinesSaid → Option CoverSoFar → List Line → Result LinesSaid BlifFault
resume library told None lines = tell_cut library (cut lines).rows (cut lines).blocks told
resume library told (Some o) lines = go_on (close_with told o (covered o (cut lines).rows)) (tell_blocks library (cut lines).blocks)

-- what a statement makes of what was said before it, and the cover that it opens: the part of a `.names` line is said when its
-- cover is closed
abbrev pub said_at_once : List CellData → Said → Statement → Result Said LineFault
said_at_once library s (Names inputs output) = Ok s
said_at_once library s statement = with_said s (said_by library no_rows statement)

abbrev pub opened : Statement → Option CoverSoFar
opened (Names inputs output) = Some (record { inputs = inputs; output = output; rows = []; on = None })
opened statement = None
