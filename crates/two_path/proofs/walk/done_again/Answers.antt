-- A record that is legal where it stands is never refused (src/walk.rt).
use Rattle.two_path.proofs.DoneAgain.{is_done}
use Rattle.two_path.proofs.walk.done_again.Goals as goal

pub unwrap-requires : goal.unwrap-requires
unwrap-requires c = is_done _ _ _ _ _ c.apply.ensures.refused c.requires.legal
