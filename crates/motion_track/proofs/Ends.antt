-- Where the moves of a block end and how far they reach: an axis without a word stays, all ends are
-- positions, and I, K and R are no larger than the block has them. `track` (src/block.rt) rests on
-- it.
use Rattle.std.proofs.Common.{◌≡◌, ◌≤◌, ℕ, Bool, true, false, List, [], ◌∷◌, All, ℤ, pos, unsigned_abs, Option, Some, None, IfSome, Result, Ok, Err, IfOk, if◌then◌else◌, refl, arith}
use Rattle.std.proofs.lemmas.List.Elements.{All-nil, All-cons, All-weaker}
use Rattle.code_tables.specs.declared.kind.CodeKind.{CodeKind}
use Rattle.code_tables.specs.declared.kind.CodeKind.TheVariants.{Rapid, Feed, ArcCw, ArcCcw, Thread, Home, Machine}
use Rattle.nc_number.specs.declared.point.Point.{Point}
use Rattle.nc_number.specs.Position.{IsPosition, is_position, origin}
use Rattle.nc_number.specs.Results.{◌>>=◌}
use Rattle.nc_number.proofs.Points.{tested_position}
use Rattle.nc_number.specs.Arithmetic.{is_zero}
use Rattle.nc_moves.specs.declared.motion.Move.{Move}
use Rattle.nc_moves.specs.declared.motion.Centre.{Centre}
use Rattle.nc_moves.specs.declared.motion.Move.TheVariants.{Rapid as RapidMove, Feed as FeedMove, Thread as ThreadMove, Arc}
use Rattle.nc_moves.specs.Motion.{end_of}
use Rattle.nc_number.specs.declared.axis.Axis.{Axis}
use Rattle.nc_number.specs.declared.axis.Axis.TheVariants.{Keep, To, By}
use Rattle.motion_track.specs.declared.block.BlockMotion.{BlockMotion}
use Rattle.motion_track.specs.declared.fault.MotionFault.{MotionFault}
use Rattle.nc_number.specs.Axes.{is_named}
use Rattle.motion_track.specs.Target.{part_of, point_reached, in_travel, target_of}
use Rattle.motion_track.specs.Cut.{at_feed, line_of, thread_of}
use Rattle.motion_track.specs.Centre.{centre_of, IsLengthWithin, IsGivenWithin}
use Rattle.motion_track.specs.Circle.{misses, arc_of}
use Rattle.motion_track.specs.Home.{point_with_named, home_moves}
use Rattle.motion_track.specs.Block.{IsBlockWithin, AllEnd, KeepsUnnamed, target_in, arc_in, moves_due}
use Rattle.motion_track.specs.Within.{centre_in, AreMovesWithin}

-- what holds of whatever the next step makes of an answer of the step before holds of both steps
-- together
after : {A B : Type 0} (step : Result A MotionFault) (next : A → Result B MotionFault) (P : A → Type 0) (Q : B → Type 0) → IfOk step P → ((a : A) → P a → IfOk (next a) Q) → IfOk (step >>= next) Q
after (Ok a) next P Q here there = there a here
after (Err alarm) next P Q here there = tt

-- what holds of an answer under a test holds of the answer that is given where the test holds
given_where : {A : Type 0} (b : Bool) (a : A) (alarm : MotionFault) (P : A → Type 0) → (b ≡ true → P a) → IfOk (if b then Ok a else Err alarm) P
given_where true a alarm P holds = holds refl
given_where false a alarm P holds = tt

-- what holds of a step's answer holds of it where a test that would refuse it fails
given_unless : {A : Type 0} (b : Bool) (alarm : MotionFault) (step : Result A MotionFault) (P : A → Type 0) → IfOk step P → IfOk (if b then Err alarm else step) P
given_unless true alarm step P holds = tt
given_unless false alarm step P holds = holds

-- a target that is not refused is a position
targeted : (to : Point) → IfOk (in_travel to) IsPosition
targeted to = given_where (is_position to) to _ IsPosition (tested_position to)

-- what holds of a target holds of the point that is in travel
targeted_at : (P : Point → Type 0) (to : Point) → P to → IfOk (in_travel to) P
targeted_at P to holds = given_where (is_position to) to _ P (λ _. holds)

-- a move that ends where P holds, if it goes somewhere, with a centre of which C holds
abbrev Leads : (Point → Type 0) → (Option Centre → Type 0) → Move → Type 0
Leads P C move = IfSome (end_of move) P × C (centre_in move)

-- a cut leads where its move does, if the feed is not 0
cut_leads : (P : Point → Type 0) (C : Option Centre → Type 0) (feed : ℤ) (move : Move) → Leads P C move → IfOk (at_feed feed move) (Leads P C)
cut_leads P C feed move holds = given_unless (is_zero feed) _ (Ok move) (Leads P C) holds

-- an arc that is not refused leads to its end, round its centre
arc_leads : (P : Point → Type 0) (C : Option Centre → Type 0) (at to : Point) (clockwise : Bool) (centre : Option Centre) (feed : ℤ) (per_rev : Bool) → P to → C centre → IfOk (arc_of at to clockwise centre feed per_rev) (Leads P C)
arc_leads P C at to clockwise None feed per_rev holds given = tt
arc_leads P C at to clockwise (Some centre) feed per_rev holds given =
    given_unless (misses at to centre) _ (at_feed feed (Arc clockwise to centre feed per_rev)) (Leads P C)
    (cut_leads P C feed (Arc clockwise to centre feed per_rev) (holds, given))

-- what holds of one move holds of the list of it alone
one_leads : (P : Point → Type 0) (C : Option Centre → Type 0) (move : Move) → Leads P C move → All (Leads P C) (move ∷ [])
one_leads P C move holds = All-cons (Leads P C) move [] holds (All-nil (Leads P C))

-- both moves of the way home lead where P holds, and have no centre
home_leads : (P : Point → Type 0) (C : Option Centre → Type 0) (between home : Point) → C None → P between → P home → All (Leads P C) (RapidMove between ∷ RapidMove home ∷ [])
home_leads P C between home none there here = All-cons (Leads P C) (RapidMove between) (RapidMove home ∷ []) (there, none) (one_leads P C (RapidMove home) (here, none))

-- an arc to the target ends where the target does
arc_all_lead : (P : Point → Type 0) (C : Option Centre → Type 0) (clockwise : Bool) (block : BlockMotion) → C (centre_of block.i block.k block.r) → IfOk (target_in block) P → IfOk (arc_in clockwise block >>= λ cut. Ok (cut ∷ [])) (All (Leads P C))
arc_all_lead P C clockwise block given target =
    let arc : Point → Result Move MotionFault = λ to. arc_of block.start to clockwise (centre_of block.i block.k block.r) block.feed block.per_rev in
    let cut : IfOk (arc_in clockwise block) (Leads P C) =
    after (target_in block) arc P (Leads P C) target
    (λ to holds. arc_leads P C block.start to clockwise (centre_of block.i block.k block.r) block.feed block.per_rev holds given) in
    after (arc_in clockwise block) (λ cut. Ok (cut ∷ [])) (Leads P C) (All (Leads P C)) cut (one_leads P C)

-- what holds of each target, and of the way home, holds of all ends; what holds of the block's
-- centre, of the centre of each arc
all_lead : (P : Point → Type 0) (C : Option Centre → Type 0) (kind : CodeKind) (block : BlockMotion) → C None → C (centre_of block.i block.k block.r) → IfOk (target_in block) P → IfOk (target_of block.start origin block.x block.z) P → ((to : Point) → P to → P (point_with_named block.start to (is_named block.x) (is_named block.z))) → P (point_with_named block.start block.home (is_named block.x) (is_named block.z)) → IfOk (moves_due kind block) (All (Leads P C))
all_lead P C Rapid block none given target machine between home =
    after (target_in block) (λ to. Ok (RapidMove to ∷ [])) P (All (Leads P C)) target (λ to holds. one_leads P C (RapidMove to) (holds, none))
all_lead P C Feed block none given target machine between home =
    after (target_in block) (λ to. line_of to block.feed block.per_rev >>= λ cut. Ok (cut ∷ [])) P (All (Leads P C)) target
    (λ to holds. after (line_of to block.feed block.per_rev) (λ cut. Ok (cut ∷ [])) (Leads P C) (All (Leads P C)) (cut_leads P C block.feed (FeedMove to block.feed block.per_rev) (holds, none)) (one_leads P C))
all_lead P C ArcCw block none given target machine between home = arc_all_lead P C true block given target
all_lead P C ArcCcw block none given target machine between home = arc_all_lead P C false block given target
all_lead P C Thread block none given target machine between home =
    after (target_in block) (λ to. thread_of to block.feed >>= λ cut. Ok (cut ∷ [])) P (All (Leads P C)) target
    (λ to holds. after (thread_of to block.feed) (λ cut. Ok (cut ∷ [])) (Leads P C) (All (Leads P C)) (cut_leads P C block.feed (ThreadMove to block.feed) (holds, none)) (one_leads P C))
all_lead P C Home block none given target machine between home =
    after (target_in block) (λ to. Ok (home_moves block.start to block.home (is_named block.x) (is_named block.z))) P (All (Leads P C)) target
    (λ to holds. home_leads P C (point_with_named block.start to (is_named block.x) (is_named block.z)) (point_with_named block.start block.home (is_named block.x) (is_named block.z)) none (between to holds) home)
all_lead P C Machine block none given target machine between home =
    after (target_of block.start origin block.x block.z) (λ to. Ok (RapidMove to ∷ [])) P (All (Leads P C)) machine (λ to holds. one_leads P C (RapidMove to) (holds, none))
all_lead P C _ block none given target machine between home = All-nil (Leads P C)

-- moves that lead where P holds end where P holds
ends_alone : (P : Point → Type 0) (C : Option Centre → Type 0) (made : Result (List Move) MotionFault) → IfOk made (All (Leads P C)) → IfOk made (AllEnd P)
ends_alone P C (Ok moves) lead = All-weaker (Leads P C) (λ move. IfSome (end_of move) P) (λ move leads. leads.0) moves lead
ends_alone P C (Err alarm) lead = tt

-- an axis without a word stays
part_kept : (at shift : ℤ) (axis : Axis) → is_named axis ≡ false → part_of at shift axis ≡ at
part_kept at shift Keep unnamed = refl
part_kept at shift (To programmed) unnamed = absurd (cc)
part_kept at shift (By way) unnamed = absurd (cc)

-- the point that the axis words reach keeps the axis that is not named
reached_kept : (block : BlockMotion) (shift : Point) → KeepsUnnamed block (point_reached block.start shift block.x block.z)
reached_kept block shift = (part_kept block.start.x shift.x block.x, part_kept block.start.z shift.z block.z)

-- the named parts of a point with the others of the start keep the axis that is not named
named_kept : (block : BlockMotion) (to : Point) → KeepsUnnamed block (point_with_named block.start to (is_named block.x) (is_named block.z))
named_kept block to = (λ x. rw x refl, λ z. rw z refl)

-- each move of a block ends where it starts along an axis that it does not name
pub unnamed_stay : (kind : CodeKind) (block : BlockMotion) → IfOk (moves_due kind block) (AllEnd (KeepsUnnamed block))
unnamed_stay kind block =
    ends_alone (KeepsUnnamed block) (λ _. Unit {0}) (moves_due kind block)
    (all_lead (KeepsUnnamed block) (λ _. Unit {0}) kind block tt tt
    (targeted_at (KeepsUnnamed block) _ (reached_kept block block.shift))
    (targeted_at (KeepsUnnamed block) _ (reached_kept block origin))
    (λ to _. named_kept block to)
    (named_kept block block.home))

-- the named parts of one position and the others of another are a position
named_position : (at to : Point) (x z : Bool) → IsPosition at → IsPosition to → IsPosition (point_with_named at to x z)
named_position at to true true start there = there
named_position at to true false start there = (there.0, start.1)
named_position at to false true start there = (start.0, there.1)
named_position at to false false start there = start

-- the centre that a block gives is no larger than its I, K and R
centre_within : (far : ℕ) (i k r : Option ℤ) → IsLengthWithin far i → IsLengthWithin far k → IsLengthWithin far r → IsGivenWithin far (centre_of i k r)
centre_within far i k (Some r) at_i at_k at_r = at_r
centre_within far None None None at_i at_k at_r = tt
centre_within far (Some i) None None at_i at_k at_r = let zero : unsigned_abs (pos 0) ≤ far = omega arith in (at_i, zero)
centre_within far None (Some k) None at_i at_k at_r = let zero : unsigned_abs (pos 0) ≤ far = omega arith in (zero, at_k)
centre_within far (Some i) (Some k) None at_i at_k at_r = (at_i, at_k)

-- the moves of a block whose start and home are positions end at positions, and their I, K and R
-- are no larger than the bound of the block's own
pub moves_within : (far : ℕ) (kind : CodeKind) (block : BlockMotion) → IsBlockWithin far block → IsPosition block.start → IsPosition block.home → IfOk (moves_due kind block) (AreMovesWithin far)
moves_within far kind block within start home =
    all_lead IsPosition (IsGivenWithin far) kind block tt
    (centre_within far block.i block.k block.r within.i within.k within.r)
    (targeted (point_reached block.start block.shift block.x block.z))
    (targeted (point_reached block.start origin block.x block.z))
    (λ to there. named_position block.start to (is_named block.x) (is_named block.z) start there)
    (named_position block.start block.home (is_named block.x) (is_named block.z) start home)
