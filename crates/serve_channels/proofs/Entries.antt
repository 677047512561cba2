-- An entry of the server with what others did ahead of it, in a call under way: about a connection, about a new one, or about none.
use Rattle.std.proofs.Common.{◌≡◌, ℕ, true, false, not, ◌&&◌, List, [], ◌∷◌, ◌++◌, set, Option, Some, None, refl, ap, subst}
use Rattle.std.specs.List.{insert, slice_get}
use Rattle.maple_io.specs.declared.act.Act.{Act}
use Rattle.machine_steps.specs.declared.entry.Entry.{Entry}
use Rattle.machine_steps.specs.declared.entry.Entry.TheVariants as entries
use Rattle.machine_steps.specs.declared.reply.Reply.{Reply}
use Rattle.machine_steps.specs.Histories.{Turn}
use Rattle.machine_moves.specs.Told.{is_end, is_heard, may_end}
use Rattle.machine_desk.specs.Desks.{Enters as EntersDesk, turn}
use Rattle.machine_desk.specs.Hearing.{IsStaged}
use Rattle.machine_desk.proofs.Tended.{alone_back, none_waits_between, ahead, meanwhile_ahead, enters_next}
use Rattle.machine_desk.specs.Next.{EntersNext}
use Rattle.world_steps.specs.Worlds.{lacks_memory}
use Rattle.serve_steps.specs.Runs.{taken_in}
use Rattle.serve_steps.specs.Deeds.{Past, is_asked, is_others}
use Rattle.serve_steps.specs.Deeds.Deed.{Enters}
use Rattle.serve_steps.specs.Laws.{entered}
use Rattle.serve_steps.specs.Parts.{Given, ends_due, entry_if, hears_open, keeps_due, MayStand}
use Rattle.serve_channels.specs.declared.connection.Connection.{Connection}
use Rattle.serve_channels.specs.declared.server.Server.{Server}
use Rattle.serve_channels.specs.Keeping.{Agrees}
use Rattle.serve_channels.specs.Servers.{IsGap, IsSame, IsUnknown, WorksAlone, number_of, home}
use Rattle.serve_channels.specs.Serving.{ServingLaws}
use Rattle.serve_channels.specs.Stretches.{Owes}
use Rattle.serve_channels.proofs.Alike.{Spares, is_about, spares_another}
use Rattle.serve_channels.proofs.Entering.{IsUnderWay, at_desk, beside_at, goes_beside, goes_next, next_another, next_spared, next_told, owes_next}
use Rattle.serve_channels.proofs.Kept.{IsKeptBut, IsLeft, IsTold, kept_at, kept_new, kept_same, set_unknown}
use Rattle.serve_channels.proofs.Others.{DidBeside, IsLawful}
use Rattle.serve_channels.proofs.Sorted.{inserted_number, inserted_unknown}

-- ---- where it may stand

stands_freely : (e : Entry) (r : Reply) (past : Past) → is_others e ≡ false → MayStand e r past
stands_freely (entries.Commit job run) r past own = absurd (cc)
stands_freely (entries.Decide job) r past own = absurd (cc)
stands_freely e r past own = tt

hears_nothing : (e : Entry) (past : Past) → is_heard e ≡ false → hears_open e past ≡ true
hears_nothing (entries.Heard c input) past other = absurd (cc)
hears_nothing e past other = refl

-- an entry of the server's own, for which memory sufficed, and which tells of the failed send that isn't told of yet; it may stand behind these deeds
pub record IsOwn (to : Option ℕ) (e : Entry) (r : Reply) (t : Turn) (past : Past) : Type 0 where
  pub own : is_others e ≡ false
  pub keeps : keeps_due to (Enters t) ≡ true
  pub memory : (is_asked e && lacks_memory r) ≡ false
  pub opened : hears_open e past ≡ true

-- ---- behind what others did

module _ (a b : Server) {e : Entry} {r : Reply} (h : EntersDesk a.desk e r b.desk) where
  abbrev pub between : Server
  between = at_desk a (ahead h)

  abbrev pub others_ahead : DidBeside a between
  others_ahead = beside_at a (ahead h) (meanwhile_ahead h) refl

  abbrev pub own_turn : Turn
  own_turn = turn h.between e r b.desk.now

  pub next_ahead : EntersNext e r between.desk b.desk
  next_ahead = enters_next h

  -- one that hears nothing
  pub unheard : (to : Option ℕ) (past : Past) → is_others e ≡ false → is_heard e ≡ false → keeps_due to (Enters own_turn) ≡ true → (is_asked e && lacks_memory r) ≡ false
      → IsOwn to e r own_turn past
  unheard to past own other keeps memory = record { own = own; keeps = keeps; memory = memory; opened = hears_nothing e past other }

  -- no packet waits behind it where none did
  pub entry_jobs : ServingLaws → IsLawful a.desk → IsSame a b → is_heard e ≡ false → (WorksAlone a → a.desk.now.jobs ≡ []) → WorksAlone b → b.desk.now.jobs ≡ []
  entry_jobs laws law same other jobs alone =
      laws.driving.none h.between e r b.desk.now (none_waits_between laws.driving law.sound others_ahead.meanwhile (jobs (alone_back home same alone))) other h.made.steps

-- ---- in a call

module _ (laws : ServingLaws) {g : Given} {before : List Act} {past : Past} {to : Option ℕ} {own : List Entry} {done : Past} {log : List Act} {a : Server}
    (u : IsUnderWay g before past to own done log a) (b : Server) {e : Entry} {r : Reply} (h : EntersDesk a.desk e r b.desk) where
  abbrev mid : Server
  mid = between a b h

  abbrev t : Turn
  t = own_turn a b h

  -- what was done up to it
  abbrev pub did : Past
  did = entered h.others done

  pub ahead_now : IsUnderWay g before past to own did log mid
  ahead_now = goes_beside laws u mid (others_ahead a b h)

  module _ (same : IsSame a b) (is : IsOwn to e r t (did ++ past)) where
    same_mid : IsSame mid b
    same_mid = record { footing = same.footing; crew = same.crew }

    told_now : IsTold before (Enters t ∷ (did ++ past)) log mid b
    told_now = next_told laws ahead_now.kept ahead_now.law same_mid (next_ahead a b h)

    another : (c : ℕ) → is_about c e ≡ false → IsLeft (did ++ past) (Enters t ∷ (did ++ past)) mid b c
    another c other = next_another laws ahead_now.kept ahead_now.law same_mid (next_ahead a b h) c other

    abbrev asks : List Entry
    asks = own ++ entry_if (is_asked e && not (ends_due to e)) e

    pub owes_now : Owes None asks (Enters t ∷ did) past
    owes_now = owes_next to own did past t ahead_now.owes is.own is.keeps (ap not is.memory) is.opened (stands_freely e r (did ++ past) is.own)

    pub kept_about_none : b.connections.items ≡ a.connections.items → ((c : ℕ) → is_about c e ≡ false) → IsKeptBut g before (Enters t ∷ (did ++ past)) log b
    kept_about_none items none = kept_same ahead_now.kept told_now items (λ c. another c (none c))

    -- where it takes nothing of the report
    module _ (unread : taken_in (Enters t) ≡ []) where
      abbrev Goes : Type 0
      Goes = IsUnderWay g before past None asks (Enters t ∷ did) log b

      goes_so : IsKeptBut g before (Enters t ∷ (did ++ past)) log b → ((c : ℕ) → IsUnknown c b.connections.items → IsUnknown c a.connections.items × Spares c t) → Goes
      goes_so kept spares = goes_next laws ahead_now b e r (next_ahead a b h) owes_now unread kept spares

      -- about none: nothing is done with any connection
      pub goes_with_none : b.connections.items ≡ a.connections.items → ((c : ℕ) → Spares c t) → ((c : ℕ) → e ≡ entries.Open c → ⊥) → ((c : ℕ) → (may_end c e && is_end r) ≡ false) → Goes
      goes_with_none items spares opens ends =
          goes_so (kept_same ahead_now.kept told_now items
          (λ c. next_spared laws ahead_now.kept ahead_now.law same_mid (next_ahead a b h) c (spares c) (opens c) (ends c)))
          (λ c unknown. (subst (IsUnknown c) items unknown, spares c))

      -- about none, by its kind
      pub goes_about_none : b.connections.items ≡ a.connections.items → ((c : ℕ) → is_about c e ≡ false) → Goes
      goes_about_none items none = goes_so (kept_about_none items none) (λ c unknown. (subst (IsUnknown c) items unknown, spares_another c t (none c)))

      -- about one that became another
      pub goes_with_one : (at : ℕ) (k l : Connection) → slice_get a.connections.items at ≡ Some k → b.connections.items ≡ set a.connections.items at l → number_of l ≡ number_of k
          → ((c : ℕ) → (c ≡ number_of k → ⊥) → is_about c e ≡ false) → (Agrees (did ++ past) k → Agrees (Enters t ∷ (did ++ past)) l) → IsStaged l.inbound b.desk.now → Goes
      goes_with_one at k l there set_is number others agrees staged =
          goes_so (kept_at ahead_now.kept told_now at k l there set_is number (agrees (ahead_now.kept.agree at k there)) staged
          (λ c other. another c (others c other))) (λ c unknown.
          (let was = set_unknown a.connections.items b.connections.items at k l there set_is number c unknown in (was.0, spares_another c t (others c was.1))))

      -- about a new one
      pub goes_with_new : (at : ℕ) (l : Connection) → IsGap at (number_of l) a.connections.items → b.connections.items ≡ insert a.connections.items at l
          → ((c : ℕ) → (c ≡ number_of l → ⊥) → is_about c e ≡ false) → Agrees (Enters t ∷ (did ++ past)) l → IsStaged l.inbound b.desk.now → Goes
      goes_with_new at l gap insert_is others agrees staged =
          goes_so (kept_new ahead_now.kept told_now at l gap insert_is agrees staged (λ c other. another c (others c other))) (λ c none. (
            inserted_unknown a.connections.items b.connections.items at l gap insert_is c none,
            spares_another c t (others c (inserted_number a.connections.items b.connections.items at l gap insert_is c none)),
          ))
