-- What `waits` is asked: the three texts of a pair, and which programs its tapes may lack, at a
-- position of the block-skip switches.
use Rattle.std.specs.Prelude.{ℕ, List, Option}
use Rattle.nc_verify.specs.Verdict.{Texts}
use Rattle.open_order.specs.declared.outside.Outside.{Outside}

-- A question about the waits of a pair.
pub record Asked : Type 0 where
  -- The tapes of both paths and the settings, as bytes.
  pub texts : Texts
  -- The O numbers of programs in the control's memory, which the tapes may lack; none if they may
  -- lack none.
  pub outside : Option Outside
  -- The block-skip switches that are on in both paths, of those that no line of the settings fixes:
  -- bit n is switch n.
  pub position : ℕ

-- The question with these texts and these programs that the tapes may lack, with no free switch on.
abbrev pub question_of : List ℕ → List ℕ → List ℕ → Option Outside → Asked
question_of left right settings outside =
    record { texts = record { left = left; right = right; settings = settings }; outside = outside; position = 0 }

-- The question at this position of the switches.
abbrev pub at : ℕ → Asked → Asked
at position asked = record asked { position = position }
