-- A thread that was told to work has done its job (`Kept::finish`, src/kept.rt).
use Rattle.std.proofs.Common.{◌≡◌, ◌∙◌, sym, subst, Option, Some, None}
use Rattle.kept_threads.specs.declared.order.Order.TheVariants.{Work}
use Rattle.kept_threads.proofs.kept.Kept.finish.Goals as goal

pub unreachable-requires : goal.unreachable-requires
unreachable-requires g c =
    let told = c.rest.ensures (Work c.requires.0) c.requires.1 in
    let clash : ◌≡◌ {A = Option g.row.J-Done.Denot} (Some told.0) None = sym told.1 ∙ c.in-None.is in cc

pub returns : goal.returns
returns g c = λ job is.
    let told = c.rest.ensures (Work job) is in
    let both : ◌≡◌ {A = Option g.row.J-Done.Denot} (Some told.0) (Some c.in-Some.done) = sym told.1 ∙ c.in-Some.is in
    let same : told.0 ≡ c.in-Some.done = cc in
    subst (λ done. g.J.Job.does job done) same told.2
