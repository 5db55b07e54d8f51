-- The first five bytes at a gate, or all of them if they are fewer, are what is looked at
-- (`head_of`, src/open.rt).
use Rattle.std.proofs.Common.{rules, ◌≡◌, ℕ, min, length, take, ap, subst, ◌∙◌}
use Rattle.gate_file.specs.First.{IsHead}
use Rattle.gate_file.proofs.Windows.{take_front}
use Rattle.gate_file.proofs.open.head_of.Goals as goal

pub returns : goal.returns
returns c =
    let bytes = c.args.bytes.now in
    let n : c.min.result ≡ min (length bytes) 5 = search rules in
    subst (IsHead c.head_in.result) (c.split_at.ensures.front ∙ ap (λ (k : ℕ). take k bytes) n ∙ take_front bytes) c.head_in.ensures
