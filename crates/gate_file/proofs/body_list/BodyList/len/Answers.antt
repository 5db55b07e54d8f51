-- A list of bodies has as many bodies as ends were noted (`BodyList::len`, src/body_list.rt).
use Rattle.std.proofs.Common.{rules, ◌≡◌, length, sym, ◌∙◌, ap}
use Rattle.gate_file.proofs.Bodies.{length_bodies}
use Rattle.gate_file.proofs.body_list.BodyList.len.Goals as goal

pub returns : goal.returns
returns c =
    let l = c.self.inside in
    let size : c.len.result ≡ length l.ends.items = search rules in
    size ∙ sym (length_bodies 0 l.ends.items l.bytes.items) ∙ ap length c.self.view_is
