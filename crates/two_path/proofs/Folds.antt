-- A history in parts, and with one record more: what machine is behind it, and that it is legal.
use Rattle.std.proofs.Common.{◌≡◌, List, [], ◌∷◌, ◌++◌, refl}
use Rattle.run_records.specs.Entries.{Entry}
use Rattle.two_path.specs.Machine.{MachineView}
use Rattle.two_path.specs.Turns.{Tapes}
use Rattle.two_path.specs.Histories.{behind_entry, IsNext, fold, IsLegal}

-- the machine behind a history with one record more is that behind the record
pub fold_push : (tapes : Tapes) (m : MachineView) (rs : List Entry) (e : Entry) → fold tapes m (rs ++ e ∷ []) ≡ behind_entry tapes e (fold tapes m rs)
fold_push tapes m [] e = refl
fold_push tapes m (r ∷ rs) e = fold_push tapes (behind_entry tapes r m) rs e

-- a legal history with one record more, which is legal behind it, is legal
pub legal_push : (tapes : Tapes) (m : MachineView) (rs : List Entry) (e : Entry) → IsLegal tapes m rs → IsNext tapes (fold tapes m rs) e → IsLegal tapes m (rs ++ e ∷ [])
legal_push tapes m [] e legal next = (next, tt)
legal_push tapes m (r ∷ rs) e legal next = (legal.0, legal_push tapes (behind_entry tapes r m) rs e legal.1 next)

-- the machine behind two parts of a history is that behind the second, from behind the first on
pub fold_parts : (tapes : Tapes) (m : MachineView) (rs ss : List Entry) → fold tapes m (rs ++ ss) ≡ fold tapes (fold tapes m rs) ss
fold_parts tapes m [] ss = refl
fold_parts tapes m (r ∷ rs) ss = fold_parts tapes (behind_entry tapes r m) rs ss

-- a legal history, and one that is legal behind it, are a legal history together
pub legal_join : (tapes : Tapes) (m : MachineView) (rs ss : List Entry) → IsLegal tapes m rs → IsLegal tapes (fold tapes m rs) ss → IsLegal tapes m (rs ++ ss)
legal_join tapes m [] ss legal more = more
legal_join tapes m (r ∷ rs) ss legal more = (legal.0, legal_join tapes (behind_entry tapes r m) rs ss legal.1 more)
