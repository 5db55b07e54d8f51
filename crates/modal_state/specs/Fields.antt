-- What clauses see of the fields of Modal (src/modal.rt). For this crate alone.
use Rattle.modal_state.specs.View.{ModalView}
use Rattle.modal_state.specs.declared.modal.Modal.TheInside.{Inside}

-- what clauses see of the fields: all of them
abbrev pub view_of : Inside → ModalView
view_of m = record {
  g01 = m.g01;
  g02 = m.g02;
  g03 = m.g03;
  g05 = m.g05;
  g06 = m.g06;
  g07 = m.g07;
  g14 = m.g14;
  motion = m.motion;
  surface = m.surface;
  per_rev = m.per_rev;
  incremental = m.incremental;
  feed = m.feed;
  speed = m.speed;
  tool = m.tool;
  offset = m.offset;
  limit = m.limit;
  cycle = m.cycle;
}
