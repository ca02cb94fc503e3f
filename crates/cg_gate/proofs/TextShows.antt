-- What the Verilog text of a netlist says shows what the netlist shows.
use Rattle.std.proofs.Common.{◌≡◌, ℕ, Bool, true, false, List, [], ◌∷◌, ◌++◌, map, length, replicate, slice_get, Option, Some, sym, ◌∙◌, ap, subst}
use Rattle.std.specs.Prelude.{IfSome}
use Rattle.std.specs.Option.{option_map}
use Rattle.std.proofs.lemmas.Option.{slice_get-map}
use Rattle.cg_gate_laws.proofs.LiftedShows.{same_ticks}
use Rattle.cg_insert.specs.Insertion.{RisesAre, RisesFrom}
use Rattle.cg_machine.specs.Machine.{MachineData}
use Rattle.cg_net.proofs.TableLemmas.{mapped_at}
use Rattle.cg_net.specs.Names.{NetName}
use Rattle.cg_netlist.specs.Circuit.{Circuit, RegisterCell}
use Rattle.cg_netlist.specs.History.{Moment, Tick, rises}
use Rattle.cg_netlist.specs.Wiring.{named}
use Rattle.cg_netlist_parts.specs.Writable.{IsPlaceable}
use Rattle.cg_verilog_text.specs.Kept.{kept_netlist}
use Rattle.cg_verilog_text.specs.VEqual.{AreVEqual, kept}
use Rattle.cg_verilog_text.specs.Written.{verilog}
use Rattle.cg_verilog_text.proofs.KeptNetlist.{kept_v_equal}
use Rattle.cg_verilog_text.proofs.OneNetlist.{no_two}
use Rattle.cg_verilog_text.proofs.SameHistories.{agree}
use Rattle.cg_verilog_text.proofs.TextSays.{text_says}
use Rattle.cg_gate.specs.Gating.{where_asked}
use Rattle.cg_gate.specs.Headline.{LoadsAlways, ShowsAlways, ShowsSame, VerilogMeans, with_bits}
use Rattle.cg_gate.specs.Loading.{LoadsWhere}
use Rattle.cg_gate.specs.Request.{RequestData}

-- a netlist that is equal but for what Verilog does not keep
module _ (c d : Circuit) (equal : AreVEqual c d) where
  -- has registers with the same clocks
  risen : (before now : List Bool) (r : ℕ) (cell : RegisterCell ℕ ℕ) → slice_get d.registers r ≡ Some cell
      → (own : RegisterCell ℕ ℕ) × (slice_get c.registers r ≡ Some own) × (rises before now own ≡ rises before now cell)
  risen before now r cell at =
      let kept_there : slice_get (map kept d.registers) r ≡ Some (kept cell) = slice_get-map kept d.registers r ∙ ap (option_map kept) at in
      let kept_here : option_map kept (slice_get c.registers r) ≡ Some (kept cell) = sym (slice_get-map kept c.registers r) ∙ (ap (λ l. slice_get l r) equal.registers ∙ kept_there) in
      let own = mapped_at kept (slice_get c.registers r) (kept cell) kept_here in
      (own.0, own.1, ap (rises before now) own.2)

  rise_from : (m : MachineData) (before : Tick) (was : Moment) (wave : List Tick) (history : List Moment) → RisesFrom c m before was wave history → RisesFrom d m before was wave history
  rise_from m before was [] [] are = are
  rise_from m before was [] (now ∷ history) are = are
  rise_from m before was (tick ∷ wave) [] are = are
  rise_from m before was (tick ∷ wave) (now ∷ history) are =
      (λ r cell at. let own = risen was.nets now.nets r cell at in sym own.2 ∙ are.0 r own.0 own.1, rise_from m tick now wave history are.1)

  rise : (m : MachineData) (wave : List Tick) (history : List Moment) → RisesAre c m wave history → RisesAre d m wave history
  rise m [] [] are = are
  rise m [] (now ∷ history) are = are
  rise m (tick ∷ wave) [] are = are
  rise m (tick ∷ wave) (now ∷ history) are = rise_from m tick now wave history are

  -- and shows the same
  shown : (m : MachineData) (read : Circuit) (start added : List Bool) (wave tested : List Tick) → ShowsSame m read c start added wave tested → ShowsSame m read d start added wave tested
  shown m read start added wave tested s =
      record {
        original = s.original;
        original_lawful = s.original_lawful;
        original_alone = s.original_alone;
        waveform = (same_ticks c d (ap length (sym equal.inputs)) tested s.waveform.0, s.waveform.1);
        history = s.history;
        lawful = ((agree c d equal (start ++ added) tested s.history).lawful).0 s.lawful;
        alone = λ other lawful. s.alone other (((agree c d equal (start ++ added) tested other).lawful).1 lawful);
        same = sym (agree c d equal (start ++ added) tested s.history).outputs ∙ s.same;
        rises = rise m tested s.history s.rises;
      }

  -- and is loaded alike
  loaded : (wave : List Tick) (bits : List Bool) (history : List Moment) → LoadsWhere c wave bits history → LoadsWhere d wave bits history
  loaded wave bits history loads k low high before now at next is rose on was there r register among =
      let own = risen before.nets now.nets r register among in
      sym own.2 ∙ loads k low high before now at next is rose on was there r own.0 own.1

  loads_always : (test : Option NetName) (read : Circuit) (delays : ℕ) → LoadsAlways test read delays c → LoadsAlways test read delays d
  loads_always test read delays loads some start wave bits history starts waves long lawful =
      let here = ((agree c d equal (start ++ replicate delays true) (with_bits test wave bits) history).lawful).1 lawful in
      loaded wave bits history (loads some start wave bits history starts waves long here)

-- the text of a netlist that shows what the original shows, and whose registers can be loaded
pub text_means : (request : RequestData) (m : MachineData) (read : Circuit) (delays : ℕ) (c : Circuit) → IsPlaceable request.library c → ShowsAlways request.test m read delays c
    → LoadsAlways request.test read delays c → VerilogMeans request m read delays c (verilog c)
text_means request m read delays c placeable shows loads =
    let says = text_says request.library c placeable in
    let same = kept_v_equal c placeable.netlist.well_formed in
    record {
      said = kept_netlist c;
      well_formed = (says.says).formed;
      says = says;
      no_other = λ d other. no_two (verilog c) request.library (named c).clock d (kept_netlist c) other says;
      same = same;
      shows = λ start wave bits starts waves long. shown c (kept_netlist c) same m read start _ wave _ (shows start wave bits starts waves long);
      loads = loads_always c (kept_netlist c) same request.test read delays loads;
    }

-- what is true of a text is true of it where it is asked for
pub means_asked : (P : List ℕ → Type 0) (asked : Bool) (text : Option (List ℕ)) (whole : List ℕ) → text ≡ where_asked asked whole → P whole → IfSome text P
means_asked P asked text whole is means = subst (λ t. IfSome t P) (sym is) (go asked)
  where
    go : (asked : Bool) → IfSome (where_asked asked whole) P
    go true = means
    go false = tt
