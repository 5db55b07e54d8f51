-- The table of causes: numbers and printed names of refusals, alarms and faults of the journal.
-- src/cause.rt has the same rows, and says when each is raised; a new row also needs its line in
-- proofs/CauseTable.antt. docs/ERRORS.md explains them.
use Rattle.std.specs.Prelude.{ℕ, ◌==◌, List, [], ◌∷◌, Option, find, codes}
use Rattle.nc_number.specs.declared.cause.Cause.{Cause}
use Rattle.nc_number.specs.declared.fault.NumberFault.{NumberFault}
use Rattle.nc_number.specs.declared.fault.NumberFault.TheVariants as fault
use Rattle.nc_number.specs.declared.cause.Cause.TheVariants.{Overflow, ZeroDivide, NegativeRoot, NotWhole, TooManyDigits, BadCharacter, NoNumber, OpenComment, NoProgramNumber, NoEnd, LineTooLong, TooManyBlocks, TapeTooLong, BadExpression, TooManyBrackets, BadCondition, UnknownFunction, BadLoopNumber, TooManyVariables, VariableRange, Protected, TooDeep, MacroAlarm, OffsetNumber, PositionRange, ArcRadius, NoCentre, FeedZero, NoSequence, NoProgram, LoopMismatch, IntoLoop, NotFixed, UnknownCode, WaitNotAlone, WaitPaths, TwoM, ProgramTwice, BadCall, AxisTwice, RanOff, WordRange, BranchAtWait, WaitTooDeep, TooManyLabels, WaitMismatch, WaitDiffers, BadRecord, DiskFault, NoRun, RunThere, Cut, JournalFull, BadSetting, BadEdit, BadZone, BadCycle, TooLarge, NoMeeting, NotPlain}

-- the number of an alarm or a refusal, as it is printed and stored
abbrev pub cause_number : Cause → ℕ
cause_number Overflow = 1
cause_number ZeroDivide = 2
cause_number NegativeRoot = 3
cause_number NotWhole = 4
cause_number TooManyDigits = 5
cause_number BadCharacter = 10
cause_number NoNumber = 11
cause_number OpenComment = 12
cause_number NoProgramNumber = 13
cause_number NoEnd = 14
cause_number LineTooLong = 15
cause_number TooManyBlocks = 16
cause_number TapeTooLong = 17
cause_number BadExpression = 20
cause_number TooManyBrackets = 21
cause_number BadCondition = 22
cause_number UnknownFunction = 23
cause_number BadLoopNumber = 24
cause_number TooManyVariables = 25
cause_number VariableRange = 30
cause_number Protected = 31
cause_number TooDeep = 32
cause_number MacroAlarm = 33
cause_number OffsetNumber = 40
cause_number PositionRange = 41
cause_number ArcRadius = 42
cause_number NoCentre = 43
cause_number FeedZero = 44
cause_number NoSequence = 50
cause_number NoProgram = 51
cause_number LoopMismatch = 52
cause_number IntoLoop = 53
cause_number NotFixed = 54
cause_number UnknownCode = 56
cause_number WaitNotAlone = 57
cause_number WaitPaths = 58
cause_number TwoM = 59
cause_number ProgramTwice = 60
cause_number BadCall = 61
cause_number AxisTwice = 62
cause_number RanOff = 63
cause_number WordRange = 64
cause_number BranchAtWait = 65
cause_number WaitTooDeep = 66
cause_number TooManyLabels = 70
cause_number WaitMismatch = 72
cause_number WaitDiffers = 74
cause_number BadRecord = 80
cause_number DiskFault = 81
cause_number NoRun = 82
cause_number RunThere = 83
cause_number Cut = 84
cause_number JournalFull = 85
cause_number BadSetting = 90
cause_number BadEdit = 91
cause_number BadZone = 92
cause_number BadCycle = 93
cause_number TooLarge = 94
cause_number NoMeeting = 95
cause_number NotPlain = 96

-- the name that is printed beside the number
abbrev pub cause_name : Cause → List ℕ
cause_name Overflow = codes "Overflow"
cause_name ZeroDivide = codes "ZeroDivide"
cause_name NegativeRoot = codes "NegativeRoot"
cause_name NotWhole = codes "NotWhole"
cause_name TooManyDigits = codes "TooManyDigits"
cause_name BadCharacter = codes "BadCharacter"
cause_name NoNumber = codes "NoNumber"
cause_name OpenComment = codes "OpenComment"
cause_name NoProgramNumber = codes "NoProgramNumber"
cause_name NoEnd = codes "NoEnd"
cause_name LineTooLong = codes "LineTooLong"
cause_name TooManyBlocks = codes "TooManyBlocks"
cause_name TapeTooLong = codes "TapeTooLong"
cause_name BadExpression = codes "BadExpression"
cause_name TooManyBrackets = codes "TooManyBrackets"
cause_name BadCondition = codes "BadCondition"
cause_name UnknownFunction = codes "UnknownFunction"
cause_name BadLoopNumber = codes "BadLoopNumber"
cause_name TooManyVariables = codes "TooManyVariables"
cause_name VariableRange = codes "VariableRange"
cause_name Protected = codes "Protected"
cause_name TooDeep = codes "TooDeep"
cause_name MacroAlarm = codes "MacroAlarm"
cause_name OffsetNumber = codes "OffsetNumber"
cause_name PositionRange = codes "PositionRange"
cause_name ArcRadius = codes "ArcRadius"
cause_name NoCentre = codes "NoCentre"
cause_name FeedZero = codes "FeedZero"
cause_name NoSequence = codes "NoSequence"
cause_name NoProgram = codes "NoProgram"
cause_name LoopMismatch = codes "LoopMismatch"
cause_name IntoLoop = codes "IntoLoop"
cause_name NotFixed = codes "NotFixed"
cause_name UnknownCode = codes "UnknownCode"
cause_name WaitNotAlone = codes "WaitNotAlone"
cause_name WaitPaths = codes "WaitPaths"
cause_name TwoM = codes "TwoM"
cause_name ProgramTwice = codes "ProgramTwice"
cause_name BadCall = codes "BadCall"
cause_name AxisTwice = codes "AxisTwice"
cause_name RanOff = codes "RanOff"
cause_name WordRange = codes "WordRange"
cause_name BranchAtWait = codes "BranchAtWait"
cause_name WaitTooDeep = codes "WaitTooDeep"
cause_name TooManyLabels = codes "TooManyLabels"
cause_name WaitMismatch = codes "WaitMismatch"
cause_name WaitDiffers = codes "WaitDiffers"
cause_name BadRecord = codes "BadRecord"
cause_name DiskFault = codes "DiskFault"
cause_name NoRun = codes "NoRun"
cause_name RunThere = codes "RunThere"
cause_name Cut = codes "Cut"
cause_name JournalFull = codes "JournalFull"
cause_name BadSetting = codes "BadSetting"
cause_name BadEdit = codes "BadEdit"
cause_name BadZone = codes "BadZone"
cause_name BadCycle = codes "BadCycle"
cause_name TooLarge = codes "TooLarge"
cause_name NoMeeting = codes "NoMeeting"
cause_name NotPlain = codes "NotPlain"

-- all causes, in the order of their numbers
abbrev pub every_cause : List Cause
every_cause =
    Overflow ∷ ZeroDivide ∷ NegativeRoot ∷ NotWhole ∷ TooManyDigits ∷ BadCharacter ∷ NoNumber ∷ OpenComment ∷
    NoProgramNumber ∷ NoEnd ∷ LineTooLong ∷ TooManyBlocks ∷ TapeTooLong ∷ BadExpression ∷ TooManyBrackets ∷
    BadCondition ∷ UnknownFunction ∷ BadLoopNumber ∷ TooManyVariables ∷ VariableRange ∷ Protected ∷ TooDeep ∷
    MacroAlarm ∷ OffsetNumber ∷ PositionRange ∷ ArcRadius ∷ NoCentre ∷ FeedZero ∷ NoSequence ∷ NoProgram ∷
    LoopMismatch ∷ IntoLoop ∷ NotFixed ∷ UnknownCode ∷ WaitNotAlone ∷ WaitPaths ∷ TwoM ∷ ProgramTwice ∷
    BadCall ∷ AxisTwice ∷ RanOff ∷ WordRange ∷ BranchAtWait ∷ WaitTooDeep ∷ TooManyLabels ∷ WaitMismatch ∷
    WaitDiffers ∷ BadRecord ∷ DiskFault ∷ NoRun ∷ RunThere ∷ Cut ∷ JournalFull ∷ BadSetting ∷ BadEdit ∷
    BadZone ∷ BadCycle ∷ TooLarge ∷ NoMeeting ∷ NotPlain ∷ []

-- the cause of a number, if there is one
abbrev pub cause_of : ℕ → Option Cause
cause_of number = find (λ cause. cause_number cause == number) every_cause

-- the alarm or refusal that a fault of numbers is
abbrev pub cause_of_number_fault : NumberFault → Cause
cause_of_number_fault fault.Overflow = Overflow
cause_of_number_fault fault.ZeroDivide = ZeroDivide
cause_of_number_fault fault.NegativeRoot = NegativeRoot
cause_of_number_fault fault.NotWhole = NotWhole
cause_of_number_fault fault.TooManyDigits = TooManyDigits
