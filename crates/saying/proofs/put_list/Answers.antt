-- `saying::put_list` meets its contract. Assumes nothing.
use Rattle.std.proofs.Common.{◌-◌, rules}
use Rattle.saying.proofs.Listing.{sofar_start, sofar_turn, sofar_end}
use Rattle.saying.proofs.put_list.Goals as goal

pub loop-i-init : goal.loop-i-init
loop-i-init c = sofar_start _ _ _ _ _ _ _ c.listed-count.ensures c.requires

pub loop-i-preserved : goal.loop-i-preserved
loop-i-preserved c = sofar_turn _ _ _ _ _ _ _ c.loop-i.invariant (search rules) c.line_at-line.ensures c.put_line-end.ensures.made c.put_line-end.ensures.few

pub returns : goal.returns
returns c =
    let all = sofar_end _ _ _ _ _ _ _ c.loop-i.invariant (search rules) in
    record {
      made = all.0;
      few = all.1;
    }
