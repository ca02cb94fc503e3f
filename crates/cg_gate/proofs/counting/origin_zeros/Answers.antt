use Rattle.std.proofs.Common.{◌≡◌, ◌<◌, ◌≤◌, ℕ, IfSome, List, map, length, slice_index_or, Vec, Global, ap, sym, subst, ◌∙◌}
use Rattle.std.specs.List.{All}
use Rattle.cg_gate.proofs.Carried.{counts_carried, few_carried, if_made}
use Rattle.cg_gate.proofs.counting.origin_zeros.Goals as goal
use Rattle.cg_gate.specs.ZeroCounting.{zeros_by}
use Rattle.cg_netlist.specs.History.{Moment}
use Rattle.cg_report.specs.Zeros.{CountZeros, low_moments, zeros_of}
use Rattle.cg_stimulus.specs.Played.{IsPlayed}

pub carried-requires : goal.carried-requires
carried-requires c = subst (λ n. All (λ o. IfSome o (λ net. net < n)) c.args.origin.now) (sym (ap length c.deref.ensures.value ∙ c.in_ok-zeros.ensures.count)) c.requires.origin

pub returns-clause-most : goal.returns-clause-most
returns-clause-most c =
    let origin = c.args.origin.now in
    let zeros = c.deref.result.now in
    let rows = length c.args.stimulus.now.rows in
    let within = subst (λ n. All (λ o. IfSome o (λ net. net < n)) origin) (sym (ap length c.deref.ensures.value ∙ c.in_ok-zeros.ensures.count)) c.requires.origin in
    let most = subst (λ (l : List ℕ). All (λ n. n ≤ rows) l) (sym c.deref.ensures.value) c.in_ok-zeros.ensures.most in
    if_made (λ (counts : Vec ℕ Global). counts.items ≡ map (zeros_by (λ net. slice_index_or zeros net 0)) origin) (λ (counts : Vec ℕ Global). All (λ n. n ≤ rows) counts.items) c.carried.result
    (λ counts is. subst (λ (l : List ℕ). All (λ n. n ≤ rows) l) (sym is) (few_carried zeros origin rows within most)) c.carried.ensures

pub returns-clause-zeros : goal.returns-clause-zeros
returns-clause-zeros c =
    let netlist = c.args.netlist.now in
    let origin = c.args.origin.now in
    let zeros = c.deref.result.now in
    let played = c.one_played_history.ensures.some in
    let counted = subst (CountZeros netlist played.0) (sym c.deref.ensures.value) (c.in_ok-zeros.ensures.zeros played.0 played.1) in
    if_made (λ (counts : Vec ℕ Global). counts.items ≡ map (zeros_by (λ net. slice_index_or zeros net 0)) origin)
    (λ (counts : Vec ℕ Global). (history : List Moment) × IsPlayed netlist c.args.stimulus.now.rows history × (counts.items ≡ map (zeros_by (λ net. zeros_of net (low_moments history))) origin)) c.carried.result
    (λ counts is. (played.0, played.1, is ∙ counts_carried zeros netlist played.0 counted origin c.requires.origin)) c.carried.ensures
