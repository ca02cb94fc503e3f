use Rattle.std.proofs.Common.{◌≡◌, ℕ, List, Option, None, length, ap, subst, arith}
use Rattle.std.specs.Option.{option_copied}
use Rattle.cg_machine.specs.Added.{own_netlist}
use Rattle.cg_netlist.specs.Netlist.{IsNetlist}
use Rattle.cg_insert.proofs.Finishing.{answered, finished, no_limit, runs, wanting, whole, writable}
use Rattle.cg_insert.specs.Insert.{inserted, insertion_limit}
use Rattle.cg_insert.proofs.insert.insert.Goals as goal

pub returns-in-Ok : goal.returns-in-Ok
returns-in-Ok c =
    let library = c.args.library.now in
    let test : Option (List ℕ) = option_copied c.args.test in
    let m = c.args.machine.now in
    let good = c.netlist-netlist.ensures.machine in
    let netlist = c.in-Ok.netlist in
    let own : IsNetlist (own_netlist m) = subst IsNetlist c.netlist-netlist.ensures.netlist c.nets-own.ensures.netlist in
    let small : insertion_limit test m ≡ None = no_limit test m (omega (arith, c.if-first_gater_output-len-gt-MOST_NETS.false, c.first_gater_output.ensures.first, c.len.ensures, ap length c.in_ok-enables.ensures)) in
    let made : netlist ≡ inserted library test m = finished library test m good c.requires own small c.in_ok-builder.builder c.in_ok-builder.ensures netlist c.in-Ok.ensures in
    record {
      answer = answered library test m good c.requires own small netlist made;
      whole = whole library test m good c.requires own small netlist made;
      runs = runs library test m good c.requires own small netlist made;
      writable = writable library test m good c.requires own small netlist made c.len-cells.ensures.found;
    }

pub wanting-requires : goal.wanting-requires
wanting-requires c =
    let library = c.args.library.now in
    let test : Option (List ℕ) = option_copied c.args.test in
    let m = c.args.machine.now in
    let good = c.netlist-netlist.ensures.machine in
    let own : IsNetlist (own_netlist m) = subst IsNetlist c.netlist-netlist.ensures.netlist c.nets-own.ensures.netlist in
    let small : insertion_limit test m ≡ None = no_limit test m (omega (arith, c.if-first_gater_output-len-gt-MOST_NETS.false, c.first_gater_output.ensures.first, c.len.ensures, ap length c.in_ok-enables.ensures)) in
    wanting library test m good c.requires own small c.in_ok-builder.builder c.in_ok-builder.ensures c.in-Err.fault c.in-Err.ensures
