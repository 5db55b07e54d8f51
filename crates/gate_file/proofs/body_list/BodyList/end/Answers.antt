-- The shut gate after a list of bodies stands at the length of the list's bytes (`BodyList::end`,
-- src/body_list.rt).
use Rattle.std.proofs.Common.{rules, ◌≡◌, length, ap, ◌∙◌}
use Rattle.gate_file.specs.Chain.{ends_at}
use Rattle.gate_file.proofs.Bodies.{bytes_end}
use Rattle.gate_file.proofs.body_list.BodyList.end.Goals as goal

pub returns : goal.returns
returns c =
    let l = c.self.inside in
    let size : c.len.result ≡ length l.bytes.items = search rules in
    size ∙ bytes_end l.ends.items l.bytes.items c.self.invariant ∙ ap ends_at c.self.view_is
