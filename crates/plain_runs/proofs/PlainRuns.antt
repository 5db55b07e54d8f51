-- A plain block runs as its move.
use Rattle.std.proofs.Common.{◌≡◌, Bool, true, false, ◌||◌, is_some, List, [], ◌∷◌, ◌++◌, codes, Option, Some, None, Result, Ok, Err, ℤ, refl, ap, sym, subst, ◌∙◌, if◌then◌else◌}
use Rattle.std.specs.Int.{is_negative}
use Rattle.nc_number.specs.Arithmetic.{is_zero}
use Rattle.nc_number.specs.Causes.{cause_number}
use Rattle.nc_number.specs.declared.cause.Cause.TheVariants.{PositionRange, FeedZero}
use Rattle.nc_number.specs.declared.point.Point.{Point}
use Rattle.nc_number.specs.declared.value.Var.{Var}
use Rattle.nc_number.specs.Axes.{axis_of, is_named}
use Rattle.nc_number.specs.Position.{is_position}
use Rattle.nc_number.specs.Results.{◌>>=◌}
use Rattle.nc_moves.specs.declared.motion.Move.{Move}
use Rattle.nc_moves.specs.declared.motion.Move.TheVariants as move
use Rattle.code_tables.specs.declared.system.System.{System}
use Rattle.code_tables.specs.declared.kind.CodeKind.{CodeKind}
use Rattle.code_tables.specs.declared.kind.CodeKind.TheVariants as kind
use Rattle.std.specs.List.{list_any}
use Rattle.code_tables.specs.Codes.{is_work_code, last_of_group}
use Rattle.code_tables.specs.declared.group.TheConstants.{ONE_SHOT_GROUP}
use Rattle.modal_state.specs.View.{ModalView}
use Rattle.modal_state.specs.Modal.{with_codes, work_of}
use Rattle.modal_state.specs.Words.{with_words}
use Rattle.offset_store.specs.Offsets.{plus, shift_of}
use Rattle.motion_track.specs.declared.block.BlockMotion.{BlockMotion}
use Rattle.motion_track.specs.declared.fault.MotionFault.{MotionFault}
use Rattle.motion_track.specs.Block.{names_axis, moves_due, moves_of}
use Rattle.motion_track.specs.Target.{point_reached}
use Rattle.motion_track.specs.Cut.{line_of}
use Rattle.motion_track.specs.Faults.{fault}
use Rattle.block_order.specs.declared.control.Control.TheVariants.{Next}
use Rattle.block_order.specs.declared.program.ControlProgram.{ControlProgram}
use Rattle.block_words.specs.declared.word.FlowWord.{FlowWord}
use Rattle.block_words.specs.declared.purpose.Purpose.TheVariants.{Other}
use Rattle.block_words.specs.Codes.{kind_of, one_shot, gives, is_limit, m_code, purpose_of}
use Rattle.block_words.specs.Words.{has}
use Rattle.block_forms.specs.declared.words.FlowWords.{FlowWords}
use Rattle.block_forms.specs.declared.body.FlowBody.TheVariants.{Words}
use Rattle.block_values.specs.InForce.{unless_fault, modal_words, modal_after}
use Rattle.block_values.specs.Motion.{motion_number, motion_of_track, motion_kind, motion_of, block_motion, axis_under}
use Rattle.block_values.specs.Moves.{all_moves, last_end}
use Rattle.block_values.specs.Values.{Values}
use Rattle.path_state.specs.View.{PathView}
use Rattle.path_state.specs.Looks.{look_of}
use Rattle.path_state.specs.Said.{sense_of}
use Rattle.path_state.specs.Effect.{of_moved, of_values, of_purpose, effect_of_words, after_motion, motion_with, effect_of_body}
use Rattle.rough_cycle.specs.declared.block.PlainBlock.{PlainBlock}
use Rattle.rough_cycle.specs.Moves.{point_after}
use Rattle.known_state.specs.Agreement.{shift_under}
use Rattle.plain_runs.specs.Runs.{code_word, axis_words, feed_words, words_of_plain, IsThere, plain_moves, RunsAs}
use Rattle.plain_runs.proofs.PlainEffect.{row_of, codes-said, plain_values, values-said, purpose-said}

-- a plain block has no M code
m-said : (feed : ℤ) (b : PlainBlock) → m_code (words_of_plain feed b) ≡ None
m-said feed b = go b.cuts b.x b.z
  where
    go : (cuts : Bool) (x z : Option ℤ) → m_code (code_word cuts ∷ (axis_words 88 x ++ (axis_words 90 z ++ feed_words cuts feed))) ≡ None
    go true None None = refl
    go true (Some x) None = refl
    go true None (Some z) = refl
    go true (Some x) (Some z) = refl
    go false None None = refl
    go false (Some x) None = refl
    go false None (Some z) = refl
    go false (Some x) (Some z) = refl

-- P holds of the moves, or their alarm is that of a point out of the travel
abbrev OnMoves : (List Move → Type 0) → Result (List Move) MotionFault → Type 0
OnMoves P (Ok moves) = P moves
OnMoves P (Err f) = f.number ≡ cause_number PositionRange

-- where the axis words of a block lead
abbrev reached : BlockMotion → Point
reached block = point_reached block.start block.shift block.x block.z

-- the one move of a line, at a feed that is not 0
abbrev lone : Bool → BlockMotion → List Move
lone cuts block =
    if names_axis block
    then (if cuts then move.Feed (reached block) block.feed block.per_rev else move.Rapid (reached block)) ∷ []
    else []

-- the code of a line
abbrev kind_by : Bool → CodeKind
kind_by cuts = if cuts then kind.Feed else kind.Rapid

-- a line makes its one move
lone-made : (cuts : Bool) (block : BlockMotion) → (cuts ≡ true → is_zero block.feed ≡ false)
    → OnMoves (λ moves. moves ≡ lone cuts block) (moves_of (kind_by cuts) block)
lone-made true block fed = go (names_axis block)
  where
    feed : (b : Bool) → b ≡ false
        → OnMoves (λ moves. moves ≡ move.Feed (reached block) block.feed block.per_rev ∷ [])
        ((if b then Err (fault FeedZero) else Ok (move.Feed (reached block) block.feed block.per_rev)) >>= λ m. Ok (m ∷ []))
    feed true e = absurd cc
    feed false e = refl

    travel : (b : Bool)
        → OnMoves (λ moves. moves ≡ move.Feed (reached block) block.feed block.per_rev ∷ [])
        ((if b then Ok (reached block) else Err (fault PositionRange))
        >>= λ to. line_of to block.feed block.per_rev >>= λ m. Ok (m ∷ []))
    travel true = feed (is_zero block.feed) (fed refl)
    travel false = refl

    go : (n : Bool)
        → OnMoves (λ moves. moves ≡ (if n then (move.Feed (reached block) block.feed block.per_rev) ∷ [] else []))
        (if n then moves_due kind.Feed block else Ok [])
    go true = travel (is_position (reached block))
    go false = refl
lone-made false block fed = go (names_axis block)
  where
    travel : (b : Bool)
        → OnMoves (λ moves. moves ≡ move.Rapid (reached block) ∷ [])
        ((if b then Ok (reached block) else Err (fault PositionRange)) >>= λ to. Ok (move.Rapid to ∷ []))
    travel true = refl
    travel false = refl

    go : (n : Bool)
        → OnMoves (λ moves. moves ≡ (if n then move.Rapid (reached block) ∷ [] else []))
        (if n then moves_due kind.Rapid block else Ok [])
    go true = travel (is_position (reached block))
    go false = refl

append_none : (moves : List Move) → moves ++ [] ≡ moves
append_none [] = refl
append_none (m ∷ moves) = ap (λ ms. m ∷ ms) (append_none moves)

-- a plain block
abbrev plain : Bool → Option ℤ → Option ℤ → PlainBlock
plain cuts x z = record { cuts = cuts; x = x; z = z }

-- A path before a plain block.
module _ (tape : List ControlProgram) (path : PathView) (s : System) (from : Point) (feed : ℤ) (cuts : Bool) (x z : Option ℤ)
    (fed : is_zero feed ≡ false) (there : IsThere from path) where
  -- its words, and what they say
  abbrev its_words : List FlowWord
  its_words = words_of_plain feed (plain cuts x z)

  abbrev values : Values
  values = plain_values feed (plain cuts x z)

  -- what is in force behind it
  abbrev modal : ModalView
  modal = with_words (with_codes path.modal (row_of cuts ∷ [])) (modal_words false values)

  -- what its motion depends on
  abbrev block : BlockMotion
  block = block_motion path.fixed.home path.position path.offsets modal values

  -- the shift before it
  abbrev shift : Point
  shift = shift_under path.modal path.offsets

  same-shift : shift_under modal path.offsets ≡ shift
  same-shift = go cuts (is_work_code path.modal.g14)
    where
      half : (b : Bool) → shift_of path.offsets (work_of (record path.modal { g14 = if b then path.modal.g14 else path.modal.g14 })) path.modal.offset ≡ shift
      half true = refl
      half false = refl

      go : (c b : Bool)
          → shift_under (with_words (with_codes path.modal (row_of c ∷ [])) (modal_words false (plain_values feed (plain c x z)))) path.offsets ≡ shift
      go true b = half (is_work_code path.modal.g14)
      go false b = half (is_work_code path.modal.g14)

  absolute : modal.incremental ≡ false
  absolute = go cuts
    where
      go : (c : Bool) → (with_words (with_codes path.modal (row_of c ∷ [])) (modal_words false (plain_values feed (plain c x z)))).incremental ≡ false
      go true = there.absolute
      go false = there.absolute

  same-rev : modal.per_rev ≡ path.modal.per_rev
  same-rev = go cuts
    where
      go : (c : Bool) → (with_words (with_codes path.modal (row_of c ∷ [])) (modal_words false (plain_values feed (plain c x z)))).per_rev ≡ path.modal.per_rev
      go true = refl
      go false = refl

  its-motion : modal.motion ≡ kind_by cuts
  its-motion = go cuts
    where
      go : (c : Bool) → (with_words (with_codes path.modal (row_of c ∷ [])) (modal_words false (plain_values feed (plain c x z)))).motion ≡ kind_by c
      go true = refl
      go false = refl

  its-feed : cuts ≡ true → block.feed ≡ feed
  its-feed e = rw e refl

  -- where the axis words lead is the point to which the block leads
  reached-is : reached block ≡ plus (point_after from (plain cuts x z)) shift
  reached-is =
      subst (λ at. point_reached path.position at (axis_under modal.incremental x None) (axis_under modal.incremental z None) ≡ plus (point_after from (plain cuts x z)) shift)
      (sym same-shift)
      (subst (λ i. point_reached path.position shift (axis_under i x None) (axis_under i z None) ≡ plus (point_after from (plain cuts x z)) shift)
      (sym absolute)
      (subst (λ at. point_reached at shift (axis_of x None) (axis_of z None) ≡ plus (point_after from (plain cuts x z)) shift)
      (sym there.stands) (go x z)))
    where
      go : (x z : Option ℤ) → point_reached (plus from shift) shift (axis_of x None) (axis_of z None) ≡ plus (point_after from (plain cuts x z)) shift
      go None None = refl
      go (Some p) None = refl
      go None (Some q) = refl
      go (Some p) (Some q) = refl

  -- a block names an axis by X or Z
  named-is : names_axis block ≡ (is_some x || is_some z)
  named-is =
      subst (λ i. (is_named (axis_under i x None) || is_named (axis_under i z None)) ≡ (is_some x || is_some z)) (sym absolute) (go x z)
    where
      go : (x z : Option ℤ) → (is_named (axis_of x None) || is_named (axis_of z None)) ≡ (is_some x || is_some z)
      go None None = refl
      go (Some p) None = refl
      go None (Some q) = refl
      go (Some p) (Some q) = refl

  -- the move of the block is the plain one
  lone-plain : lone cuts block ≡ plain_moves shift from feed path.modal.per_rev (plain cuts x z)
  lone-plain =
      ap (λ n. if n then (if cuts then move.Feed (reached block) block.feed block.per_rev else move.Rapid (reached block)) ∷ [] else []) named-is
      ∙ ap (λ m. if is_some x || is_some z then m ∷ [] else []) (go cuts refl)
    where
      go : (c : Bool) → cuts ≡ c
          → (if c then move.Feed (reached block) block.feed block.per_rev else move.Rapid (reached block))
          ≡ (if c then move.Feed (plus (point_after from (plain cuts x z)) shift) feed path.modal.per_rev
          else move.Rapid (plus (point_after from (plain cuts x z)) shift))
      go true e =
          ap (λ p. move.Feed p block.feed block.per_rev) reached-is
          ∙ ap (λ f. move.Feed (plus (point_after from (plain cuts x z)) shift) f block.per_rev) (its-feed e)
          ∙ ap (λ r. move.Feed (plus (point_after from (plain cuts x z)) shift) feed r) same-rev
      go false e = ap (λ p. move.Rapid p) reached-is

  -- the path stands where the moves end
  lone-ends : last_end path.position (lone cuts block) ≡ plus (point_after from (plain cuts x z)) shift
  lone-ends = go (names_axis block) cuts named-is
    where
      unnamed : (x z : Option ℤ) → (is_some x || is_some z) ≡ false → plus from shift ≡ plus (point_after from (plain cuts x z)) shift
      unnamed None None e = refl
      unnamed (Some p) z e = absurd cc
      unnamed None (Some q) e = absurd cc

      go : (n c : Bool) → n ≡ (is_some x || is_some z)
          → last_end path.position (if n then (if c then move.Feed (reached block) block.feed block.per_rev else move.Rapid (reached block)) ∷ [] else [])
          ≡ plus (point_after from (plain cuts x z)) shift
      go true true e = reached-is
      go true false e = reached-is
      go false c e = there.stands ∙ unnamed x z (sym e)

  -- behind its motion the block has run as its move
  finish : (made : Result (List Move) MotionFault) → OnMoves (λ moves. moves ≡ lone cuts block) made
      → RunsAs path from feed (plain cuts x z)
      (of_moved tape Next (after_motion path modal s its_words values (motion_number (motion_of_track modal.cycle made))))
  finish (Ok moves) e = (
    all ∙ e ∙ lone-plain,
    refl,
    record { stands = ap (λ ms. last_end path.position ms) (all ∙ e) ∙ lone-ends ∙ ap (λ at. plus (point_after from (plain cuts x z)) at) (sym same-shift); absolute = absolute },
    same-shift,
    same-rev,
  )
    where
      all : all_moves (gives s is_limit its_words) modal values moves (m_code its_words) ≡ moves
      all = rw (m-said feed (plain cuts x z)) (append_none moves)
  finish (Err f) e = e

  -- what is in force behind the words
  modal-is : modal_after path.modal s its_words values ≡ Ok modal
  modal-is =
      ap (λ all. unless_fault None (with_words (with_codes path.modal all) (modal_words (list_any (λ row. is_limit row.kind) all) values)))
      (codes-said s feed (plain cuts x z))
      ∙ ap (λ b. unless_fault None (with_words (with_codes path.modal (row_of cuts ∷ [])) (modal_words b values))) (none cuts)
    where
      none : (c : Bool) → list_any (λ row. is_limit row.kind) (row_of c ∷ []) ≡ false
      none true = refl
      none false = refl

  -- the code that decides its motion is its own
  kind-is : motion_kind modal (one_shot s its_words) ≡ kind_by cuts
  kind-is =
      ap (λ all. motion_kind modal (kind_of (last_of_group all ONE_SHOT_GROUP))) (codes-said s feed (plain cuts x z))
      ∙ ap (λ shot. motion_kind modal shot) (none cuts) ∙ its-motion
    where
      none : (c : Bool) → kind_of (last_of_group (row_of c ∷ []) ONE_SHOT_GROUP) ≡ None
      none true = refl
      none false = refl

  -- the motion of a line is that of its moves
  motion-is : (c : Bool) (has_l : Bool) → motion_of path.fixed.home path.position path.offsets modal (kind_by c) has_l values
      ≡ motion_number (motion_of_track modal.cycle (moves_of (kind_by c) block))
  motion-is true has_l = refl
  motion-is false has_l = refl

  -- so its words run
  pub words-run : RunsAs path from feed (plain cuts x z) (of_moved tape Next (effect_of_words path.fixed path s its_words values))
  words-run =
      subst (λ m. RunsAs path from feed (plain cuts x z) (of_moved tape Next (motion_with path.fixed path s its_words values m))) (sym modal-is)
      (subst (λ k. RunsAs path from feed (plain cuts x z) (of_moved tape Next (after_motion path modal s its_words values
      (motion_of path.fixed.home path.position path.offsets modal k (has (codes "L") its_words) values)))) (sym kind-is)
      (subst (λ m. RunsAs path from feed (plain cuts x z) (of_moved tape Next (after_motion path modal s its_words values m)))
      (sym (motion-is cuts (has (codes "L") its_words)))
      (finish (moves_of (kind_by cuts) block) (lone-made cuts block (λ e. rw (its-feed e) fed)))))

-- a plain block runs as its move
pub block-runs : (tape : List ControlProgram) (path : PathView) (reads : List Var) (words : FlowWords) (from : Point) (feed : ℤ)
    (b : PlainBlock) → words.words ≡ words_of_plain feed b → is_negative feed ≡ false → is_zero feed ≡ false → IsThere from path
    → RunsAs path from feed b (effect_of_body tape path.fixed path (Words words) Next reads)
block-runs tape path reads words from feed b are positive fed there =
    subst (λ purpose. RunsAs path from feed b (of_purpose tape path.fixed path purpose words.dialect.system words.words Next reads))
    (sym (words.purpose_is ∙ ap (λ ws. purpose_of words.dialect ws) are ∙ purpose-said words.dialect feed b))
    (subst (λ ws. RunsAs path from feed b (of_purpose tape path.fixed path Other words.dialect.system ws Next reads)) (sym are)
    (subst (λ v. RunsAs path from feed b (of_values tape path.fixed path words.dialect.system (words_of_plain feed b) Next v))
    (sym (values-said (look_of path.fixed path) (sense_of path Other words.dialect.system (words_of_plain feed b)).arc
    (sense_of path Other words.dialect.system (words_of_plain feed b)).setting feed b reads positive))
    (words-run tape path words.dialect.system from feed b.cuts b.x b.z fed there)))
