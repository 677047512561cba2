-- An entry of the server: behind what others did, one turn of the machine. What it leaves of connections that it isn't about, and where it stands in a stretch.
use Rattle.std.proofs.Common.{◌≡◌, ℕ, true, false, not, ◌&&◌, List, [], ◌∷◌, ◌++◌, Option, Some, None, append-nil, refl, sym, ap, ◌∙◌, subst, ⊎_elim}
use Rattle.std.specs.Prelude.{is_some}
use Rattle.std.proofs.lemmas.Bool.{cases_Bool, eq-eqb}
use Rattle.machine_desk.proofs.Crewed.{same_crew}
use Rattle.maple_io.specs.declared.act.Act.{Act}
use Rattle.machine_steps.specs.declared.entry.Entry.{Entry}
use Rattle.machine_steps.specs.declared.entry.Entry.TheVariants as entries
use Rattle.machine_steps.specs.declared.reply.Reply.{Reply}
use Rattle.machine_steps.specs.Histories.{Leads, Turn}
use Rattle.machine_steps.specs.Machine.{Session, session_at}
use Rattle.machine_steps.specs.Machine.{was_opened as was_session}
use Rattle.machine_moves.specs.Told.{is_end, may_end}
use Rattle.machine_desk.specs.Desks.{DeskView, Footing, calls_of, turn}
use Rattle.machine_desk.specs.Laws.{Meanwhile}
use Rattle.machine_desk.proofs.Meanwhile.{leads_then}
use Rattle.machine_desk.specs.Next.{EntersNext}
use Rattle.serve_steps.specs.Runs.{taken_in, taken_report}
use Rattle.serve_steps.specs.Deeds.{Past, acts_of, is_asked, is_others}
use Rattle.serve_steps.specs.Deeds.Deed.{Enters}
use Rattle.serve_steps.specs.Laws.{entered}
use Rattle.serve_steps.specs.Parts.{Given, ends_due, entry_if, had_memory, hears_open, IsFree, keeps_due, own_of}
use Rattle.serve_steps.proofs.Entered.{entered_ahead}
use Rattle.serve_channels.specs.declared.server.Server.{Server}
use Rattle.serve_channels.specs.Keeping.{IsKept, Went}
use Rattle.serve_channels.specs.Servers.{IsSame, IsUnknown, WorksAlone}
use Rattle.serve_channels.specs.Serving.{ServingLaws}
use Rattle.serve_channels.specs.Stretches.{IsAside, Owes}
use Rattle.serve_channels.proofs.Alike.{Spares, alike_turn, aside_turn, is_about, spares_another}
use Rattle.serve_channels.proofs.Kept.{IsKeptBut, IsLeft, IsSessionStill, IsTold, kept_but, kept_whole}
use Rattle.serve_channels.proofs.Others.{DidBeside, IsLawful, meanwhile_others, others_aside, others_kept, others_lawful, others_owe}
use Rattle.serve_channels.proofs.Stretching.{aside_nothing, nothing_done}
use Rattle.serve_channels.proofs.Told.{taken_others}

-- ---- behind what others did

-- a server at a desk that knows more
abbrev pub at_desk : Server → DeskView → Server
at_desk s d = record s { desk = d }

abbrev pub beside_at : (s : Server) (d : DeskView) → Meanwhile s.desk d → d.footing ≡ s.desk.footing → DidBeside s (at_desk s d)
beside_at s d h footing = record { meanwhile = h; connections = refl; same = record { footing = footing; crew = same_crew s.crew } }

-- ---- sessions

is_opening_of : (c : ℕ) (e : Entry) → is_about c e ≡ false → e ≡ entries.Open c → ⊥
is_opening_of c e other same = (let f : true ≡ false = sym (eq-eqb c c refl) ∙ sym (ap (is_about c) same) ∙ other in absurd (cc))

ends_none : (c : ℕ) (e : Entry) (r : Reply) → is_about c e ≡ false → (may_end c e && is_end r) ≡ false
ends_none c (entries.Heard d input) r other = rw other refl
ends_none c (entries.Gone d fault) r other = rw other refl
ends_none c e r other = refl

module _ (laws : ServingLaws) {a b : DeskView} {e : Entry} {r : Reply} (law : IsLawful a) (h : EntersNext e r a b) where
  some_still : (c : ℕ) → (e ≡ entries.Open c → ⊥) → (may_end c e && is_end r) ≡ false → (o p : Option Session) → session_at c a.now ≡ o → session_at c b.now ≡ p
      → is_some (session_at c b.now) ≡ is_some (session_at c a.now)
  some_still c opens ends (Some s) p i j = laws.driving.ends a.now e r b.now law.sound h.made.steps c s i ∙ ap not ends ∙ sym (ap is_some i)
  some_still c opens ends None None i j = ap is_some j ∙ sym (ap is_some i)
  some_still c opens ends None (Some t) i j = absurd (opens (laws.driving.sessions a.now e r b.now law.sound h.made.steps c t i j).entry_is)

  pub next_opened : (c : ℕ) → (e ≡ entries.Open c → ⊥) → was_session c b.now ≡ was_session c a.now
  next_opened c opens =
      let only = laws.driving.connections a.now e r b.now h.made.steps in
      ⊎_elim (λ was. only.stay c was ∙ sym was)
      (λ was. ⊎_elim (λ is. absurd (opens (only.others c was is))) (λ is. is ∙ sym was) (cases_Bool (was_session c b.now))) (cases_Bool (was_session c a.now))

  -- a session stays where it isn't opened, and doesn't end
  pub next_session : (c : ℕ) → (e ≡ entries.Open c → ⊥) → (may_end c e && is_end r) ≡ false → IsSessionStill c a.now b.now
  next_session c opens ends = record { live = some_still c opens ends (session_at c a.now) (session_at c b.now) refl refl; opened = next_opened c opens }

  pub next_lawful : IsLawful b
  next_lawful = record {
    sound = laws.driving.keeps a.now e r b.now law.sound h.made.admitted h.made.steps;
    legal =
        subst (λ (f : Footing). Leads f.start b.past b.now) (sym h.footing) (subst (λ ts. Leads a.footing.start ts b.now) (sym h.past)
        (leads_then a.footing.start a.past (turn a.now e r b.now ∷ []) a.now b.now law.legal (refl, h.made, refl)));
  }

-- ---- what is kept

module _ (laws : ServingLaws) {g : Given} {before : List Act} {past : Past} {log : List Act} {a b : Server} {e : Entry} {r : Reply} (kept : IsKeptBut g before past log a)
    (law : IsLawful a.desk) (same : IsSame a b) (h : EntersNext e r a.desk b.desk) where
  abbrev pub this : Turn
  this = turn a.desk.now e r b.desk.now

  pub next_told : IsTold before (Enters this ∷ past) log a b
  next_told = record {
    same = same;
    turns = h.past ∙ ap (λ (ts : List Turn). ts ++ this ∷ []) kept.turns;
    acts = kept.acts ∙ ap (λ (acts : List Act). before ++ acts) (sym (append-nil (acts_of past)));
    settings = (laws.driving.grow a.desk.now e r b.desk.now h.made.steps).settings;
  }

  -- nothing is done with a connection that it isn't about
  pub next_another : (c : ℕ) → is_about c e ≡ false → IsLeft past (Enters this ∷ past) a b c
  next_another c other = record {
    alike = alike_turn c this past (spares_another c this other);
    bytes = λ known. refl;
    session = next_session laws law h c (is_opening_of c e other) (ends_none c e r other);
  }

  -- nor with one of which it does nothing
  pub next_spared : (c : ℕ) → Spares c this → (e ≡ entries.Open c → ⊥) → (may_end c e && is_end r) ≡ false → IsLeft past (Enters this ∷ past) a b c
  next_spared c spares opens ends = record { alike = alike_turn c this past spares; bytes = λ known. refl; session = next_session laws law h c opens ends }

-- ---- in a stretch

pub owes_next : (to : Option ℕ) (own : List Entry) (done ahead : Past) (t : Turn) → Owes to own done ahead → is_others t.entry ≡ false → keeps_due to (Enters t) ≡ true
    → had_memory (Enters t) ≡ true → hears_open t.entry (done ++ ahead) ≡ true → IsFree (Enters t) (done ++ ahead)
    → Owes None (own ++ entry_if (is_asked t.entry && not (ends_due to t.entry)) t.entry) (Enters t ∷ done) ahead
owes_next to own done ahead t h others keeps memory opened free = record {
  quiet = h.quiet;
  own_is =
      ap (λ (o : Option ℕ). own_of done ++ entry_if (is_asked t.entry && not (ends_due o t.entry)) t.entry) h.due_is
      ∙ ap (λ (es : List Entry). es ++ entry_if (is_asked t.entry && not (ends_due to t.entry)) t.entry) h.own_is;
  memory = rw memory h.memory;
  while_open = (opened, h.while_open);
  told = rw (ap (λ (o : Option ℕ). keeps_due o (Enters t)) h.due_is ∙ keeps) h.told;
  due_is = rw others refl;
  free = (free, h.free);
  in_order = (tt, h.in_order);
}

-- ---- a call under way

-- so much was done so far, and all is kept, but that no packet may wait
pub record IsUnderWay (g : Given) (before : List Act) (past : Past) (to : Option ℕ) (own : List Entry) (done : Past) (log : List Act) (s : Server) : Type 0 where
  pub owes : Owes to own done past
  pub kept : IsKeptBut g before (done ++ past) log s
  pub law : IsLawful s.desk
  pub aside : (c : ℕ) → IsUnknown c s.connections.items → IsAside c done
  pub unread : taken_report done ≡ []

pub begins : {g : Given} {before : List Act} {past : Past} {log : List Act} {s : Server} → IsKept g before past log s → IsLawful s.desk
    → IsUnderWay g before past None [] [] log s
begins {g} {before} {past} kept law = record { owes = nothing_done past; kept = kept_but kept; law = law; aside = λ c unknown. aside_nothing c; unread = refl }

-- and then the call is over
pub is_over_now : {g : Given} {before : List Act} {past : Past} {own : List Entry} {done : Past} {log : List Act} {s : Server} (So : List Entry → Past → Type 0)
    → IsUnderWay g before past None own done log s → So own done → (WorksAlone s → s.desk.now.jobs ≡ []) → Went g before So past log s
is_over_now {past = past} {own = own} {done = done} So h so jobs = record {
  done = done;
  own = own;
  stretch = h.owes;
  so = so;
  kept = kept_whole h.kept jobs;
  aside = h.aside;
  unread = h.unread;
}

module _ (laws : ServingLaws) {g : Given} {before : List Act} {past : Past} {to : Option ℕ} {own : List Entry} {done : Past} {log : List Act} {a : Server}
    (u : IsUnderWay g before past to own done log a) where
  -- others did what they may, or the server worked on packets
  pub goes_beside : (b : Server) (h : DidBeside a b) → IsUnderWay g before past to own (entered h.meanwhile.turns done) log b
  goes_beside b h = record {
    owes = others_owe laws g before to own done past log a b.desk u.kept u.law h.meanwhile u.owes;
    kept = subst (λ (p : Past). IsKeptBut g before p log b) (sym (entered_ahead h.meanwhile.turns done past)) (others_kept laws u.kept u.law h);
    law = others_lawful laws u.kept u.law h;
    aside = λ c unknown.
        others_aside c h.meanwhile.turns done (meanwhile_others laws u.law h.meanwhile) (u.aside c (subst (IsUnknown c) h.connections unknown));
    unread = taken_others (calls_of a.desk.past) h.meanwhile.turns done h.meanwhile.allowed ∙ u.unread;
  }

  -- the server made an entry, and all is kept
  pub goes_next : (b : Server) (e : Entry) (r : Reply) → EntersNext e r a.desk b.desk → {asks : List Entry} → Owes None asks (Enters (turn a.desk.now e r b.desk.now) ∷ done) past
      → taken_in (Enters (turn a.desk.now e r b.desk.now)) ≡ [] → IsKeptBut g before (Enters (turn a.desk.now e r b.desk.now) ∷ (done ++ past)) log b
      → ((c : ℕ) → IsUnknown c b.connections.items → IsUnknown c a.connections.items × Spares c (turn a.desk.now e r b.desk.now))
      → IsUnderWay g before past None asks (Enters (turn a.desk.now e r b.desk.now) ∷ done) log b
  goes_next b e r h owes unread kept spares = record {
    owes = owes;
    kept = kept;
    law = next_lawful laws u.law h;
    aside = λ c unknown. aside_turn c (turn a.desk.now e r b.desk.now) done (spares c unknown).1 (u.aside c (spares c unknown).0);
    unread = ap (λ (text : List ℕ). taken_report done ++ text) unread ∙ append-nil (taken_report done) ∙ u.unread;
  }
