-- What the lobby's news are.
use Rattle.std.specs.Prelude.{◌≢◌, ℕ, ◌⊎◌, Option, Some, None, IsSome, IsTrue}
use Rattle.worker_crew.specs.declared.gave_up.GaveUp.{GaveUp}
use Rattle.worker_crew.specs.declared.lobby.News.{News}

-- the first cause stays
abbrev pub first_cause : Option GaveUp → GaveUp → Option GaveUp
first_cause None cause = Some cause
first_cause (Some first) cause = Some first

-- there was an offer since so many, or nothing more is offered
abbrev pub CallsWorkers : ℕ → News → Type 0
CallsWorkers seen news = (news.offers ≢ seen) ⊎ IsTrue news.closed

-- there was a move since so many, or nothing more is offered, or a worker gave up
abbrev pub CallsAll : ℕ → News → Type 0
CallsAll seen news = (news.moves ≢ seen) ⊎ IsTrue news.closed ⊎ IsSome news.broken
