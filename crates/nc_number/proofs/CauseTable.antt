-- Each row of the table of causes has a number of its own: for the law `a_number_has_one_cause`
-- (src/laws.rt) and `of_number` (src/cause.rt). A new cause is a line of `every_row`.
use Rattle.std.proofs.Common.{◌≡◌, ◌≢◌, ℕ, Option, Some, None, IfSome, IsNone, All, Contains, lit<, refl, ap, sym, ◌∙◌}
use Rattle.std.proofs.lemmas.List.Elements.{All-contains}
use Rattle.nc_number.specs.declared.cause.Cause.{Cause}
use Rattle.nc_number.specs.declared.cause.Cause.TheVariants.{Overflow, ZeroDivide, NegativeRoot, NotWhole, TooManyDigits, BadCharacter, NoNumber, OpenComment, NoProgramNumber, NoEnd, LineTooLong, TooManyBlocks, TapeTooLong, BadExpression, TooManyBrackets, BadCondition, UnknownFunction, BadLoopNumber, TooManyVariables, VariableRange, Protected, TooDeep, MacroAlarm, OffsetNumber, PositionRange, ArcRadius, NoCentre, FeedZero, NoSequence, NoProgram, LoopMismatch, IntoLoop, NotFixed, UnknownCode, WaitNotAlone, WaitPaths, TwoM, ProgramTwice, BadCall, AxisTwice, RanOff, WordRange, BranchAtWait, WaitTooDeep, TooManyLabels, WaitMismatch, WaitDiffers, BadRecord, DiskFault, NoRun, RunThere, Cut, JournalFull, BadSetting, BadEdit, BadZone, BadCycle, TooLarge, NoMeeting, NotPlain}
use Rattle.nc_number.specs.Causes.{cause_number, every_cause, cause_of}

-- each cause is in the table, and no row before it has its number
every_row : (cause : Cause) → Contains every_cause cause × (cause_of (cause_number cause) ≡ Some cause)
every_row Overflow = ((0, lit< tt, refl), refl)
every_row ZeroDivide = ((1, lit< tt, refl), refl)
every_row NegativeRoot = ((2, lit< tt, refl), refl)
every_row NotWhole = ((3, lit< tt, refl), refl)
every_row TooManyDigits = ((4, lit< tt, refl), refl)
every_row BadCharacter = ((5, lit< tt, refl), refl)
every_row NoNumber = ((6, lit< tt, refl), refl)
every_row OpenComment = ((7, lit< tt, refl), refl)
every_row NoProgramNumber = ((8, lit< tt, refl), refl)
every_row NoEnd = ((9, lit< tt, refl), refl)
every_row LineTooLong = ((10, lit< tt, refl), refl)
every_row TooManyBlocks = ((11, lit< tt, refl), refl)
every_row TapeTooLong = ((12, lit< tt, refl), refl)
every_row BadExpression = ((13, lit< tt, refl), refl)
every_row TooManyBrackets = ((14, lit< tt, refl), refl)
every_row BadCondition = ((15, lit< tt, refl), refl)
every_row UnknownFunction = ((16, lit< tt, refl), refl)
every_row BadLoopNumber = ((17, lit< tt, refl), refl)
every_row TooManyVariables = ((18, lit< tt, refl), refl)
every_row VariableRange = ((19, lit< tt, refl), refl)
every_row Protected = ((20, lit< tt, refl), refl)
every_row TooDeep = ((21, lit< tt, refl), refl)
every_row MacroAlarm = ((22, lit< tt, refl), refl)
every_row OffsetNumber = ((23, lit< tt, refl), refl)
every_row PositionRange = ((24, lit< tt, refl), refl)
every_row ArcRadius = ((25, lit< tt, refl), refl)
every_row NoCentre = ((26, lit< tt, refl), refl)
every_row FeedZero = ((27, lit< tt, refl), refl)
every_row NoSequence = ((28, lit< tt, refl), refl)
every_row NoProgram = ((29, lit< tt, refl), refl)
every_row LoopMismatch = ((30, lit< tt, refl), refl)
every_row IntoLoop = ((31, lit< tt, refl), refl)
every_row NotFixed = ((32, lit< tt, refl), refl)
every_row UnknownCode = ((33, lit< tt, refl), refl)
every_row WaitNotAlone = ((34, lit< tt, refl), refl)
every_row WaitPaths = ((35, lit< tt, refl), refl)
every_row TwoM = ((36, lit< tt, refl), refl)
every_row ProgramTwice = ((37, lit< tt, refl), refl)
every_row BadCall = ((38, lit< tt, refl), refl)
every_row AxisTwice = ((39, lit< tt, refl), refl)
every_row RanOff = ((40, lit< tt, refl), refl)
every_row WordRange = ((41, lit< tt, refl), refl)
every_row BranchAtWait = ((42, lit< tt, refl), refl)
every_row WaitTooDeep = ((43, lit< tt, refl), refl)
every_row TooManyLabels = ((44, lit< tt, refl), refl)
every_row WaitMismatch = ((45, lit< tt, refl), refl)
every_row WaitDiffers = ((46, lit< tt, refl), refl)
every_row BadRecord = ((47, lit< tt, refl), refl)
every_row DiskFault = ((48, lit< tt, refl), refl)
every_row NoRun = ((49, lit< tt, refl), refl)
every_row RunThere = ((50, lit< tt, refl), refl)
every_row Cut = ((51, lit< tt, refl), refl)
every_row JournalFull = ((52, lit< tt, refl), refl)
every_row BadSetting = ((53, lit< tt, refl), refl)
every_row BadEdit = ((54, lit< tt, refl), refl)
every_row BadZone = ((55, lit< tt, refl), refl)
every_row BadCycle = ((56, lit< tt, refl), refl)
every_row TooLarge = ((57, lit< tt, refl), refl)
every_row NoMeeting = ((58, lit< tt, refl), refl)
every_row NotPlain = ((59, lit< tt, refl), refl)

-- each cause has a row in the table
pub cause_is_listed : (cause : Cause) → Contains every_cause cause
cause_is_listed cause = (every_row cause).0

-- two causes with the same number are the same cause
pub number_has_one_cause : (a b : Cause) → cause_number a ≡ cause_number b → a ≡ b
number_has_one_cause a b same =
    let both : ◌≡◌ {A = Option Cause} (Some a) (Some b) = sym (every_row a).1 ∙ ap cause_of same ∙ (every_row b).1 in cc

-- what a search of the table found: if it finds only what has the number, and nothing only if no
-- row has it, it finds the cause of that number
pub found_by_number : (number : ℕ) (found : Option Cause) → IfSome found (λ cause. cause_number cause ≡ number)
    → (IsNone found → All (λ cause. cause_number cause ≢ number) every_cause)
    → (cause : Cause) → cause_number cause ≡ number → found ≡ Some cause
found_by_number number None has missed cause is =
    absurd (All-contains (λ row. cause_number row ≢ number) every_cause cause (missed refl) (cause_is_listed cause) is)
found_by_number number (Some other) has missed cause is = ap Some (number_has_one_cause other cause (has ∙ sym is))
