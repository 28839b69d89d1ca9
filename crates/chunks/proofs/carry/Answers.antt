-- `chunks::carry` meets its contract. Assumes nothing.
use Rattle.std.proofs.Common.{ℕ, ◌-◌, take, drop, refl, sym, ap, ◌∙◌, zero-add, arith, length-drop}
use Rattle.std.proofs.lemmas.List.Edits.{take-paste}
use Rattle.std.specs.List.{copy_within}
use Rattle.chunks.proofs.carry.Goals as goal

pub returns : goal.returns
returns c =
    let a = c.args in
    let s = a.chunk.now in
    let n = a.at - a.past in
    record {
      many = refl;
      bytes =
          ap (take n) c.copy_within.ensures.after
          ∙ ap (λ (k : ℕ). take k (copy_within s a.past a.at 0)) (sym (zero-add n))
          ∙ take-paste s 0 (drop a.past s) n (omega arith) (omega (arith, length-drop a.past s));
    }
