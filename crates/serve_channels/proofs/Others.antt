-- Turns of others, and of the server's own work on packets: what they leave of connections, of the machine and of what is kept, and where they stand in a stretch.
use Rattle.std.proofs.Common.{◌≡◌, ℕ, Bool, true, false, not, ◌&&◌, List, [], ◌∷◌, ◌++◌, map, Option, Some, None, append-nil, refl, sym, ap, ◌∙◌, subst}
use Rattle.std.proofs.lemmas.Bool.{and_from}
use Rattle.maple_io.specs.declared.act.Act.{Act}
use Rattle.history_lock.specs.Histories.{AreAllowed}
use Rattle.machine_steps.specs.declared.entry.Entry.{Entry}
use Rattle.machine_steps.specs.declared.entry.Entry.TheVariants as entries
use Rattle.machine_steps.specs.Histories.{Leads, Turn}
use Rattle.machine_steps.specs.Machine.{State, opening}
use Rattle.machine_steps.specs.Sound.{IsSound}
use Rattle.machine_sharing.specs.Legal.{call_of}
use Rattle.machine_sharing.specs.Sharing.{Allows}
use Rattle.machine_desk.specs.Desks.{DeskLaw, DeskView, Footing}
use Rattle.machine_desk.specs.Laws.{Meanwhile}
use Rattle.machine_desk.proofs.Tended.{alone_back, sound_between, live_between, opened_between, stays_between, none_waits_between}
use Rattle.machine_desk.proofs.Meanwhile.{leads_then}
use Rattle.serve_steps.specs.Deeds.{Past, bytes_of, is_asked, is_others, turns_of}
use Rattle.serve_steps.specs.Deeds.Deed.{Enters}
use Rattle.serve_steps.specs.Laws.{entered}
use Rattle.serve_steps.specs.Parts.{AreFree, Given, all_told, due, ends_due, entry_if, hears_open, keeps_due, own_of}
use Rattle.serve_steps.proofs.Entered.{acts_entered, are_others, AreOthers}
use Rattle.serve_steps.proofs.States.{turns_go_on}
use Rattle.serve_channels.specs.declared.server.Server.{Server}
use Rattle.serve_channels.specs.Servers.{IsSame, WorksAlone, home}
use Rattle.serve_channels.specs.Serving.{ServingLaws}
use Rattle.serve_channels.specs.Stretches.{IsAside, Owes}
use Rattle.serve_channels.proofs.Alike.{IsAlike, alike_same, alike_then, alike_turn, aside_turn, is_about, spares_another}
use Rattle.serve_channels.proofs.Kept.{IsKeptBut, IsLeft, IsSessionStill, IsTold, kept_same}

-- ---- entries of others

record IsOfOthers (e : Entry) : Type 0 where
  asked : is_asked e ≡ false
  about : (c : ℕ) → is_about c e ≡ false
  heard : (past : Past) → hears_open e past ≡ true

of_others : (e : Entry) → is_others e ≡ true → IsOfOthers e
of_others (entries.ReadCell cell) h = record { asked = refl; about = λ c. refl; heard = λ past. refl }
of_others entries.ReadPolicy h = record { asked = refl; about = λ c. refl; heard = λ past. refl }
of_others entries.OpenJobs h = record { asked = refl; about = λ c. refl; heard = λ past. refl }
of_others (entries.Commit job run) h = record { asked = refl; about = λ c. refl; heard = λ past. refl }
of_others (entries.Decide job) h = record { asked = refl; about = λ c. refl; heard = λ past. refl }
of_others e h = absurd (cc)

pub others_alike : (c : ℕ) (ts : List Turn) (past : Past) → AreOthers ts → IsAlike c past (entered ts past)
others_alike c [] past h = alike_same c past
others_alike c (t ∷ ts) past h =
    alike_then c past (Enters t ∷ past) (entered ts (Enters t ∷ past)) (alike_turn c t past (spares_another c t ((of_others t.entry h.0).about c)))
    (others_alike c ts (Enters t ∷ past) h.1)

pub bytes_entered : (c : ℕ) (ts : List Turn) (past : Past) → bytes_of c (entered ts past) ≡ bytes_of c past
bytes_entered c [] past = refl
bytes_entered c (t ∷ ts) past = bytes_entered c ts (Enters t ∷ past)

pub others_aside : (c : ℕ) (ts : List Turn) (done : Past) → AreOthers ts → IsAside c done → IsAside c (entered ts done)
others_aside c [] done h k = k
others_aside c (t ∷ ts) done h k = others_aside c ts (Enters t ∷ done) h.1 (aside_turn c t done (spares_another c t ((of_others t.entry h.0).about c)) k)

-- ---- in a stretch

-- a turn of others
keeps_owed : (to : Option ℕ) (t : Turn) → is_others t.entry ≡ true → keeps_due to (Enters t) ≡ true
keeps_owed None t h = refl
keeps_owed (Some c) t h = rw h refl

none_own : (b : Bool) (e : Entry) → is_asked e ≡ false → entry_if (is_asked e && b) e ≡ []
none_own b e h = rw h refl

owes_turn : (to : Option ℕ) (own : List Entry) (done ahead : Past) (t : Turn) → is_others t.entry ≡ true → Owes to own done ahead → AreFree (Enters t ∷ done) ahead
    → Owes to own (Enters t ∷ done) ahead
owes_turn to own done ahead t h k free =
    let none = (of_others t.entry h).asked in
    record {
      quiet = k.quiet;
      own_is = ap (λ es. own_of done ++ es) (none_own (not (ends_due (due done) t.entry)) t.entry none) ∙ append-nil (own_of done) ∙ k.own_is;
      memory = rw none k.memory;
      while_open = ((of_others t.entry h).heard (done ++ ahead), k.while_open);
      told = and_from (keeps_due (due done) (Enters t)) (all_told done) (keeps_owed (due done) t h) k.told;
      due_is = rw h k.due_is;
      free = free;
      in_order = (tt, k.in_order);
    }

-- where what they entered may stand
owes_all : (to : Option ℕ) (own : List Entry) (done ahead : Past) (ts : List Turn) → AreOthers ts → Owes to own done ahead → AreFree (entered ts done) ahead
    → Owes to own (entered ts done) ahead
owes_all to own done ahead [] others h free = h
owes_all to own done ahead (t ∷ ts) others h free =
    owes_all to own (Enters t ∷ done) ahead ts others.1 (owes_turn to own done ahead t others.0 h (first_free ts (Enters t ∷ done) ahead free)) free
  where
    first_free : (us : List Turn) (ds past : Past) → AreFree (entered us ds) past → AreFree ds past
    first_free [] ds past f = f
    first_free (u ∷ us) ds past f = (first_free us (Enters u ∷ ds) past f).1

-- ---- what a desk knows is lawful

pub record IsLawful (d : DeskView) : Type 0 where
  pub sound : IsSound d.now
  pub legal : Leads d.footing.start d.past d.now

pub lawful : {d : DeskView} → DeskLaw d → IsLawful d
lawful h = record { sound = h.sound; legal = h.legal }

-- ---- what others did at the desk

module _ (laws : ServingLaws) {a b : DeskView} (law : IsLawful a) (h : Meanwhile a b) where
  pub meanwhile_others : AreOthers h.turns
  meanwhile_others = are_others (map call_of a.past) h.turns h.allowed

  pub meanwhile_lawful : b.footing ≡ a.footing → IsLawful b
  meanwhile_lawful footing = record {
    sound = sound_between laws.driving law.sound h;
    legal =
        subst (λ (f : Footing). Leads f.start b.past b.now) (sym footing)
        (subst (λ ts. Leads a.footing.start ts b.now) (sym h.past) (leads_then a.footing.start a.past h.turns a.now b.now law.legal h.leads));
  }

  pub meanwhile_session : (c : ℕ) → IsSessionStill c a.now b.now
  meanwhile_session c = record { live = live_between laws.driving law.sound h c; opened = opened_between laws.driving law.sound h c }

-- ---- beside a server

-- others did what they may, or the server worked on packets, and its connections are as they were
pub record DidBeside (a b : Server) : Type 0 where
  pub meanwhile : Meanwhile a.desk b.desk
  pub connections : b.connections.items ≡ a.connections.items
  pub same : IsSame a b

module _ (laws : ServingLaws) {g : Given} {before : List Act} {past : Past} {log : List Act} {a b : Server} (kept : IsKeptBut g before past log a) (law : IsLawful a.desk)
    (h : DidBeside a b) where
  abbrev pub after : Past
  after = entered h.meanwhile.turns past

  others_told : IsTold before after log a b
  others_told = record {
    same = h.same;
    turns = h.meanwhile.past ∙ ap (λ (ts : List Turn). ts ++ h.meanwhile.turns) kept.turns ∙ sym (turns_go_on h.meanwhile.turns past);
    acts = kept.acts ∙ ap (λ (acts : List Act). before ++ acts) (sym (acts_entered h.meanwhile.turns past));
    settings = (stays_between laws.driving law.sound h.meanwhile).settings;
  }

  pub others_left : (c : ℕ) → IsLeft past after a b c
  others_left c = record {
    alike = others_alike c h.meanwhile.turns past (meanwhile_others laws law h.meanwhile);
    bytes = λ known. bytes_entered c h.meanwhile.turns past;
    session = meanwhile_session laws law h.meanwhile c;
  }

  pub others_kept : IsKeptBut g before after log b
  others_kept = kept_same kept others_told h.connections others_left

  pub others_lawful : IsLawful b.desk
  others_lawful = meanwhile_lawful laws law h.meanwhile h.same.footing

  pub others_jobs : (WorksAlone a → a.desk.now.jobs ≡ []) → WorksAlone b → b.desk.now.jobs ≡ []
  others_jobs jobs alone = none_waits_between laws.driving law.sound h.meanwhile (jobs (alone_back home h.same alone))

-- the machine's history so far
pub legal_past : (g : Given) (before : List Act) (past : Past) (log : List Act) (s : Server) → IsKeptBut g before past log s → IsLawful s.desk
    → Leads (opening g.policy g.settings) (turns_of past) s.desk.now
legal_past g before past log s kept law =
    subst (λ (m : State). Leads m (turns_of past) s.desk.now) kept.start (subst (λ ts. Leads s.desk.footing.start ts s.desk.now) kept.turns law.legal)

-- they may stand where they were made
pub others_owe : ServingLaws → (g : Given) (before : List Act) (to : Option ℕ) (own : List Entry) (done past : Past) (log : List Act) (a : Server) (b : DeskView)
    → IsKeptBut g before (done ++ past) log a → IsLawful a.desk → (h : Meanwhile a.desk b) → Owes to own done past → Owes to own (entered h.turns done) past
others_owe laws g before to own done past log a b kept law h owes =
    owes_all to own done past h.turns (meanwhile_others laws law h) owes
    (laws.free g done past a.desk.now b.now h.turns (legal_past g before (done ++ past) log a kept law) h.leads
    (subst (λ ts. AreAllowed Allows (map call_of ts) (map call_of h.turns)) kept.turns h.allowed) owes.free)
