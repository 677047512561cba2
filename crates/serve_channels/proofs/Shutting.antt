-- Connections whose sessions are over are closed, and forgotten.
use Rattle.std.proofs.Common.{◌≡◌, ◌≢◌, ℕ, ◌+◌, ◌<◌, ◌==◌, ◌||◌, Bool, true, false, not, List, [], ◌∷◌, ◌++◌, length, get_or, append-nil, append_assoc, refl, sym, ap, ◌∙◌, subst, ⊎_elim, arith, eq-eqb}
use Rattle.std.proofs.Math.Bool.{or-true}
use Rattle.std.specs.Prelude.{Option, Some, None, is_some, unwrap_or}
use Rattle.std.specs.List.{remove, slice_get}
use Rattle.std.proofs.lemmas.Bool.{cases_eq, ne_eqb, both_ways}
use Rattle.std.proofs.lemmas.List.Folds.{list_any-append}
use Rattle.std.proofs.lemmas.Option.{same_Some}
use Rattle.maple_io.specs.declared.act.Act.{Act}
use Rattle.maple_io.specs.declared.act.Act.TheVariants as acts
use Rattle.maple_io.specs.Boards.{is_opening, was_opened}
use Rattle.machine_steps.specs.declared.entry.Entry.{Entry}
use Rattle.machine_steps.specs.Machine.{session_at}
use Rattle.machine_steps.specs.Machine.{was_opened as was_session}
use Rattle.machine_desk.specs.Hearing.{is_live, was_begun}
use Rattle.machine_desk.specs.declared.inbound.Stage.{Stage}
use Rattle.machine_desk.specs.declared.inbound.Stage.TheVariants.{Live, Over, Unopened}
use Rattle.serve_steps.specs.Runs.{taken_report}
use Rattle.serve_steps.specs.Deeds.{Past, acts_of, turns_of}
use Rattle.serve_steps.specs.Deeds.Deed.{Does}
use Rattle.serve_steps.specs.Parts.{Given}
use Rattle.serve_channels.specs.declared.connection.Connection.{Connection}
use Rattle.serve_channels.specs.declared.server.Server.{Server}
use Rattle.serve_channels.specs.Delivering.{Closes, ClosesAt, IsOverAt, AllLive}
use Rattle.serve_channels.specs.Keeping.{Agrees, Goes, IsForgotten, IsKept, IsServing, IsUnused}
use Rattle.serve_channels.specs.Servers.{AreSorted, IsUnknown, number_of}
use Rattle.serve_channels.specs.Stretches.{IsAside, IsQuietly}
use Rattle.serve_channels.proofs.Acts.{closing_alike, closing_own, closing_stays, open_same}
use Rattle.serve_channels.proofs.Alike.{agrees_alike, forgotten_alike, unused_alike}
use Rattle.serve_channels.proofs.Numbered.{there_at}
use Rattle.serve_channels.proofs.Sending.{owes_act}
use Rattle.serve_channels.proofs.Sorted.{apart, came_from, left_there, not_left, sorted_left}
use Rattle.serve_channels.proofs.Stretching.{aside_then}

-- ---- what is kept

-- what was done, with that
abbrev deed : Connection → Past → Past
deed k past = Does (acts.Closes (number_of k)) ∷ past

-- an index has one connection
pub one_at : (ks : List Connection) (m n : ℕ) (k l : Connection) → slice_get ks m ≡ Some k → slice_get ks n ≡ Some l → m ≡ n → k ≡ l
one_at ks m n k l here there same = ap (λ (o : Option Connection). unwrap_or o k) (sym here ∙ ap (slice_get ks) same ∙ there)

module _ {g : Given} {before : List Act} {past : Past} {old : List Act} {s : Server} (kept : IsKept g before past old s) (at : ℕ) (k : Connection)
    (there : slice_get s.connections.items at ≡ Some k) (over : is_live k.inbound.stage ≡ false) where
  agreed : Agrees past k
  agreed = kept.agree at k there

  -- any other has another number
  other_number : (m : ℕ) (l : Connection) → slice_get s.connections.items m ≡ Some l → m ≢ at → (number_of k == number_of l) ≡ false
  other_number m l here other = ne_eqb (number_of k) (number_of l) (λ same. apart s.connections.items kept.sorted at m k l there here other (sym same))

  -- one that isn't there behind it is this one, or wasn't there
  unknown_back : (c : ℕ) → IsUnknown c (remove s.connections.items at) → number_of k ≢ c → IsUnknown c s.connections.items
  unknown_back c unknown other known =
      let here = left_there s.connections.items at known.0 known.1.connection known.1.there
      (λ same. other (ap number_of (one_at s.connections.items at known.0 k known.1.connection there known.1.there (sym same)) ∙ known.1.number)) in
      unknown (here.0, record { connection = known.1.connection; there = here.1; number = known.1.number })

  forgotten_now : IsForgotten (number_of k) (deed k past)
  forgotten_now = record {
    shut = open_same (number_of k) past (deed k past) (closing_stays (number_of k) (number_of k) past) ∙ agreed.live ∙ over;
    closed = closing_own (number_of k) (acts_of past) (eq-eqb (number_of k) (number_of k) refl) ∙ sym (agreed.over ∙ ap not over);
  }

  agree_left : (n : ℕ) (l : Connection) → slice_get (remove s.connections.items at) n ≡ Some l → Agrees (deed k past) l
  agree_left n l here =
      let f = came_from s.connections.items at n l here in
      agrees_alike l past (deed k past)
      (closing_alike (number_of l) (number_of k) past (other_number f.from l f.there (not_left at n s.connections.items l f)))
      refl (kept.agree f.from l f.there)

  forgotten_left : (c : ℕ) → IsUnknown c (remove s.connections.items at) → IsForgotten c (deed k past)
  forgotten_left c unknown =
      ⊎_elim
      (λ same. subst (λ (d : ℕ). IsForgotten d (deed k past)) same forgotten_now)
      (λ other. forgotten_alike c past (deed k past) (closing_alike c (number_of k) past (ne_eqb (number_of k) c other)) (kept.forgotten c (unknown_back c unknown other)))
      (cases_eq (number_of k) c)

  alone_left : (c : ℕ) → IsUnknown c (remove s.connections.items at) → is_some (session_at c s.desk.now) ≡ false
  alone_left c unknown =
      ⊎_elim
      (λ same. subst (λ (d : ℕ). is_some (session_at d s.desk.now) ≡ false) same ((kept.sessions.staged at k there).live ∙ over))
      (λ other. kept.sessions.others c (unknown_back c unknown other)) (cases_eq (number_of k) c)

  -- a number that was never opened is none of those that are there
  not_opened : (c : ℕ) → was_opened c (acts_of past) ≡ false → (number_of k == c) ≡ false
  not_opened c unopened =
      ne_eqb (number_of k) c (λ same. both_ways (was_opened c (acts_of past)) unopened (subst (λ (d : ℕ). was_opened d (acts_of past) ≡ true) same agreed.opened))

  unused_left : (c : ℕ) → was_opened c (acts_of (deed k past)) ≡ false → IsUnused c (deed k past) × (was_session c s.desk.now ≡ false)
  unused_left c unopened =
      let h = sym (closing_stays c (number_of k) past).opened ∙ unopened in
      let u = kept.unused c h in
      (unused_alike c past (deed k past) (closing_alike c (number_of k) past (not_opened c h)) u.0, u.1)

  pub kept_left : (new : List Act) (t : Server) → new ≡ old ++ acts.Closes (number_of k) ∷ [] → t ≡ record s { connections = t.connections }
      → t.connections.items ≡ remove s.connections.items at → IsKept g before (deed k past) new t
  kept_left new t log rest removed =
      let back = sym removed in
      subst (λ (x : Server). IsKept g before (deed k past) new x) (sym rest) (record {
        start = kept.start;
        turns = kept.turns ∙ sym (append-nil (turns_of past));
        acts = log ∙ ap (λ (l : List Act). l ++ acts.Closes (number_of k) ∷ []) kept.acts ∙ append_assoc before (acts_of past) (acts.Closes (number_of k) ∷ []);
        sorted = subst (λ (ks : List Connection). AreSorted ks) back (sorted_left s.connections.items at kept.sorted);
        agree = λ n l here. agree_left n l (ap (λ (ks : List Connection). slice_get ks n) back ∙ here);
        forgotten = λ c unknown. forgotten_left c (subst (λ (ks : List Connection). IsUnknown c ks) removed unknown);
        unused = unused_left;
        sessions = record {
          staged = λ n l here. (let f = came_from s.connections.items at n l (ap (λ (ks : List Connection). slice_get ks n) back ∙ here) in
              kept.sessions.staged f.from l f.there);
          others = λ c unknown. alone_left c (subst (λ (ks : List Connection). IsUnknown c ks) removed unknown);
        };
        crew = kept.crew;
        jobs = kept.jobs;
      })

pub kept_closed : {g : Given} {before : List Act} {past : Past} {at : ℕ} {s t : Server} {old new : List Act} → IsKept g before past old s → (c : ClosesAt at s t old new)
    → IsKept g before (deed c.connection past) new t
kept_closed {at = at} {t = t} {new = new} kept c = kept_left kept at c.connection c.there c.over new t c.log c.rest c.removed

-- ---- what was done

aside_closed : (c : ℕ) (k : Connection) → IsAside c (deed k [])
aside_closed c k = record { taken = refl; unsent = refl; unanswered = refl; unfailed = refl; unended = refl }

-- connections were closed, and nothing was done with any
pub record Shuts (past : Past) (own : List Entry) (done : Past) : Type 0 where
  pub none : own ≡ []
  pub turns : turns_of done ≡ []
  pub aside : (c : ℕ) → IsAside c done

pub shuts_on : (a : Server) (log : List Act) {s t : Server} {old new : List Act} {at : ℕ} → ClosesAt at s t old new → Goes Shuts a log s old → Goes Shuts a log t new
shuts_on a log {at = at} c h g before past kept nothing =
    let w = h g before past kept tt in
    let aside : (d : ℕ) → IsAside d (deed c.connection w.done) = λ d. aside_then d w.done (deed c.connection []) (w.so.aside d) (aside_closed d c.connection) in
    record {
      done = deed c.connection w.done;
      own = w.own;
      stretch = owes_act None w.own w.done past (acts.Closes (number_of c.connection)) refl refl (w.kept.agree at c.connection c.there).closed w.stretch;
      so = record { none = w.so.none; turns = append-nil (turns_of w.done) ∙ w.so.turns; aside = aside };
      kept = kept_closed w.kept c;
      aside = λ d unknown. aside d;
      unread = append-nil (taken_report w.done) ∙ w.unread;
    }

pub serving_closed : {s t : Server} {old new : List Act} {at : ℕ} → ClosesAt at s t old new → IsServing old s → IsServing new t
serving_closed c h = record { given = h.given; before = h.before; past = deed c.connection h.past; kept = kept_closed h.kept c }

-- those ahead of this place are open still
pub live_left : {s t : Server} {old new : List Act} {at : ℕ} → ClosesAt at s t old new
    → ((n : ℕ) (k : Connection) → n < at → slice_get s.connections.items n ≡ Some k → is_live k.inbound.stage ≡ true)
    → (n : ℕ) (k : Connection) → n < at → slice_get t.connections.items n ≡ Some k → is_live k.inbound.stage ≡ true
live_left {s} {at = at} c live n k low here =
    let f = came_from s.connections.items at n k (ap (λ (ks : List Connection). slice_get ks n) (sym c.removed) ∙ here) in
    live n k low (ap (slice_get s.connections.items) (sym (f.ahead low)) ∙ f.there)

pub closes_all : (a s : Server) (log new : List Act) → AllLive s
    → Goes Shuts a log s new → Goes (Closes s) a log s new
closes_all a s log new live h g before past kept nothing =
    let w = h g before past kept tt in
    record {
      done = w.done;
      own = w.own;
      stretch = w.stretch;
      so = record { none = w.so.none; turns = w.so.turns; live = live; unanswered = λ c. (w.so.aside c).unanswered };
      kept = w.kept;
      aside = w.aside;
      unread = w.unread;
    }

-- ---- one is closed

-- the board opened it
pub was_opened_at : (log : List Act) (s : Server) (at : ℕ) (k : Connection) → IsServing log s → slice_get s.connections.items at ≡ Some k → was_opened (number_of k) log ≡ true
was_opened_at log s at k h there =
    ap (was_opened (number_of k)) h.kept.acts ∙ list_any-append (is_opening (number_of k)) h.before (acts_of h.past)
    ∙ ap (λ (b : Bool). was_opened (number_of k) h.before || b) (h.kept.agree at k there).opened ∙ or-true (was_opened (number_of k) h.before)

-- one that isn't open was
over_stage : (stage : Stage) → was_begun stage ≡ true → is_live stage ≡ false → stage ≡ Over
over_stage Over begun shut = refl
over_stage Live begun shut = absurd (cc)
over_stage Unopened begun shut = absurd (cc)

pub over_at : (log : List Act) (s : Server) (at : ℕ) (k : Connection) → IsServing log s → at < length s.connections.items → k ≡ get_or s.connections.items at k
    → is_live k.inbound.stage ≡ false → IsOverAt at s
over_at log s at k serving within is shut x there =
    over_stage x.inbound.stage (serving.kept.agree at x there).begun
    (ap (λ (y : Connection). is_live y.inbound.stage) (same_Some x k (sym there ∙ there_at s.connections.items at k within is)) ∙ shut)

pub closes_at : (at n : ℕ) (s t : Server) (old new : List Act) (k : Connection) → at < length s.connections.items → k ≡ get_or s.connections.items at k
    → IsOverAt at s → n ≡ number_of k → new ≡ old ++ acts.Closes n ∷ [] → t ≡ record s { connections = t.connections }
    → t.connections.items ≡ remove s.connections.items at → ClosesAt at s t old new
closes_at at n s t old new k within is over number log rest removed =
    let there = there_at s.connections.items at k within is in
    record {
      connection = k;
      there = there;
      over = ap is_live (over k there);
      log = log ∙ ap (λ (c : ℕ). old ++ acts.Closes c ∷ []) number;
      rest = rest;
      removed = removed;
    }

pub quietly_closed : {at : ℕ} {s t : Server} {old new : List Act} → ClosesAt at s t old new → IsQuietly old new
quietly_closed c = record { acts = acts.Closes (number_of c.connection) ∷ []; log = c.log; quiet = refl }

-- ---- one is open

pub live_on : (ks : List Connection) (at : ℕ) (x : Connection) → at < length ks → x ≡ get_or ks at x → is_live x.inbound.stage ≡ true
    → ((n : ℕ) (k : Connection) → n < at → slice_get ks n ≡ Some k → is_live k.inbound.stage ≡ true)
    → (n : ℕ) (k : Connection) → n < at + 1 → slice_get ks n ≡ Some k → is_live k.inbound.stage ≡ true
live_on ks at x within is live ahead n k low there =
    ⊎_elim
    (λ same. ap (λ (y : Connection). is_live y.inbound.stage) (one_at ks n at k x there (there_at ks at x within is) same) ∙ live)
    (λ other. ahead n k (omega (arith, low, other)) there) (cases_eq n at)
