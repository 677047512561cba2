-- What lines ask for, and what may stand freely.
use Rattle.std.proofs.Common.{◌≡◌, ◌≤◌, true, false, refl, inl, ⊎_elim, arith}
use Rattle.serve_tries.specs.Lines.{CommittedUntold, CutLineAsks, DecidedBehindThree, DecidedBehindTwo, EndAsks, NoneBehindQuit, NothingAsks, PlacesAreRefused, PolicyAsks}

pub cut_line_asks : CutLineAsks
cut_line_asks = (refl, refl)

pub nothing_asks : NothingAsks
nothing_asks = refl

pub none_behind_quit : NoneBehindQuit
none_behind_quit = refl

pub policy_asks : PolicyAsks
policy_asks = (refl, refl)

pub end_asks : EndAsks
end_asks = (refl, (refl, refl))

pub places_are_refused : PlacesAreRefused
places_are_refused = refl

three : 3 ≤ 3
three = omega arith

pub decided_behind_three : DecidedBehindThree
decided_behind_three p s key run differs = ((refl, three), (inl refl, (inl refl, (inl refl, (tt, tt)))))

too_few : 3 ≤ 2 → ⊥
too_few h = absurd (omega (arith, h))

pub decided_behind_two : DecidedBehindTwo
decided_behind_two p s key run differs free = too_few free.0.1

never : false ≡ true → ⊥
never e = absurd (cc)

pub committed_untold : CommittedUntold
committed_untold p s run differs free = ⊎_elim never never free.0
