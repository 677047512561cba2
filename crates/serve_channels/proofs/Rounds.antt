-- Connections are served one behind the other, and again in rounds.
use Rattle.std.proofs.Common.{◌≡◌, ℕ, ◌+◌, ◌<◌, ◌≤◌, ◌==◌, Bool, true, false, ◌||◌, List, [], ◌∷◌, ◌++◌, length, Option, get_or, set, refl, sym, ap, ◌∙◌, subst, inl, inr, ⊎_elim, arith}
use Rattle.std.proofs.Math.Bool.{or-true}
use Rattle.std.specs.Prelude.{Ok, Some, cond, count_by, not}
use Rattle.std.specs.List.{list_all, list_any, slice_get}
use Rattle.std.specs.Option.{option_or}
use Rattle.std.proofs.lemmas.Bool.{and_parts, cases_eq, cases_lt, or_parts}
use Rattle.std.proofs.lemmas.List.Folds.{list_any-append}
use Rattle.std.proofs.lemmas.List.Sums.{sum_by-set}
use Rattle.std.proofs.lemmas.Option.{get_or_from_slice_get, slice_get-get_or, slice_get_within}
use Rattle.maple_io.specs.declared.act.Act.{Act}
use Rattle.maple_io.specs.declared.act.Act.TheVariants as acts
use Rattle.maple_io.specs.declared.board.Sent.{Sent}
use Rattle.maple_io.specs.declared.board.Sent.TheVariants as sends
use Rattle.maple_io.specs.Boards.{BoardView}
use Rattle.board_lines.specs.declared.sending.Reach.{Reach}
use Rattle.board_lines.specs.Deliveries.{OnlySends, SendsAll, is_failed_reach, is_send}
use Rattle.board_lines.specs.Queues.{QueueView}
use Rattle.machine_steps.specs.declared.entry.Entry.{Entry}
use Rattle.machine_desk.specs.Hearing.{is_live}
use Rattle.machine_desk.proofs.Lists.{set_beside}
use Rattle.serve_steps.specs.Deeds.{Past, last_answer, takes_out}
use Rattle.serve_steps.specs.Deeds.Deed.{Does}
use Rattle.serve_steps.specs.Parts.{is_quiet}
use Rattle.serve_channels.specs.declared.connection.Connection.{Connection}
use Rattle.serve_channels.specs.declared.server.Server.{Server}
use Rattle.serve_channels.specs.Delivering.{Empties, EmptiesAll, FewerUnfailed, IsServed, IsStill, Leaves, OthersStay, SendsOut, ServesAll, ServesAt, TakenAt, TakesOut, unfailed, IsSentOut}
use Rattle.serve_channels.specs.Keeping.{Goes, IsServing}
use Rattle.serve_channels.specs.Servers.{IsAt, SameNumbers, number_of}
use Rattle.serve_channels.specs.Stretches.{IsAside, IsQuietly}
use Rattle.serve_channels.proofs.Numbered.{stay_known}
use Rattle.serve_channels.proofs.Stretching.{answer_then, goes_so, goes_then, went_nowhere}
use Rattle.serve_channels.proofs.Sorted.{at_there}

-- ---- one was served

sent_still : (k : Connection) (a b : Past) → (last_answer (number_of k) a ≡ Some sends.NotYet → last_answer (number_of k) b ≡ Some sends.NotYet) → IsSentOut k a → IsSentOut k b
sent_still k a b on (inl none) = inl none
sent_still k a b on (inr (inl failed)) = inr (inl failed)
sent_still k a b on (inr (inr (inl cut))) = inr (inr (inl cut))
sent_still k a b on (inr (inr (inr last))) = inr (inr (inr (on last)))

-- now, whatever was done before
pub served_more : (k : Connection) (first more : Past) → IsServed k more → IsServed k (more ++ first)
served_more k first more h = record {
  taken = λ uncut.
      list_any-append (takes_out (number_of k)) more first ∙ ap (λ (b : Bool). b || list_any (takes_out (number_of k)) first) (h.taken uncut);
  sent = sent_still k more (more ++ first)
      (λ last. answer_then (number_of k) first more ∙ ap (λ (o : Option Sent). option_or o (last_answer (number_of k) first)) last) h.sent;
}

-- before, and since then nothing was done with it
pub served_before : (k : Connection) (first more : Past) → IsServed k first → IsAside (number_of k) more → IsServed k (more ++ first)
served_before k first more h aside = record {
  taken = λ uncut.
      list_any-append (takes_out (number_of k)) more first ∙ ap (λ (b : Bool). list_any (takes_out (number_of k)) more || b) (h.taken uncut)
      ∙ or-true (list_any (takes_out (number_of k)) more);
  sent = sent_still k first (more ++ first)
      (λ last. answer_then (number_of k) first more ∙ ap (λ (o : Option Sent). option_or o (last_answer (number_of k) first)) aside.unanswered ∙ last) h.sent;
}

-- ---- a round

-- those ahead of this index were served
abbrev pub ServesBelow : ℕ → Server → Past → List Entry → Past → Type 0
ServesBelow at s past own done = (own ≡ []) × ((n : ℕ) (k : Connection) → n < at → slice_get s.connections.items n ≡ Some k → IsServed k done)

both_none : (ours theirs : List Entry) → ours ≡ [] → theirs ≡ [] → ours ++ theirs ≡ []
both_none ours theirs h k = ap (λ (es : List Entry). es ++ theirs) h ∙ k

pub below_none : (s : Server) (log : List Act) → Goes (ServesBelow 0 s) s log s log
below_none s log g before past kept nothing = went_nowhere g before (ServesBelow 0 s past) past log s (refl, λ n k low is. absurd (omega (arith, low))) kept

pub below_then : (at : ℕ) (o a b : Server) (first_log old new : List Act) → Goes (ServesBelow at a) o first_log a old → Goes (ServesAt at b) a old b new → OthersStay at a b
    → SameNumbers a b → Goes (ServesBelow (at + 1) b) o first_log b new
below_then at o a b first_log old new h k others numbers =
    goes_then (λ past. Unit {0}) (ServesBelow at a) (ServesAt at b) (ServesBelow (at + 1) b) o a b first_log old new (λ past ours theirs first more so1 so2. (
      both_none ours theirs so1.0 so2.none,
      λ n x low is. ⊎_elim
          (λ same. served_more x first more (so2.served x (ap (slice_get b.connections.items) (sym same) ∙ is)))
          (λ other. served_before x first more (so1.1 n x (omega (arith, low, other)) (sym (others n other) ∙ is)) (so2.others n x other is)) (cases_eq n at),
    ))
    (stay_known a b numbers) h k

pub below_all : (count : ℕ) (o s : Server) (old new : List Act) → length s.connections.items ≤ count → Goes (ServesBelow count s) o old s new → Goes (ServesAll s) o old s new
below_all count o s old new long h =
    goes_so (λ past. Unit {0}) (ServesBelow count s) (ServesAll s) o s old new
    (λ past own done so. (so.0, λ n k is. so.1 n k (let low = slice_get_within s.connections.items n k is in omega (arith, low, long)) is)) h

-- ---- rounds

abbrev pub OwnsNone : Past → List Entry → Past → Type 0
OwnsNone past own done = own ≡ []

-- behind another round all were served in that
pub round_then : (o a b : Server) (first_log old new : List Act) → Goes OwnsNone o first_log a old → Goes (ServesAll b) a old b new → SameNumbers a b
    → Goes (ServesAll b) o first_log b new
round_then o a b first_log old new h k numbers =
    goes_then (λ past. Unit {0}) OwnsNone (ServesAll b) (ServesAll b) o a b first_log old new
    (λ past ours theirs first more so1 so2. (both_none ours theirs so1 so2.0, λ at x is. served_more x first more (so2.1 at x is))) (stay_known a b numbers) h k

pub round_done : (o b : Server) (old new : List Act) → Goes (ServesAll b) o old b new → Goes OwnsNone o old b new
round_done o b old new h = goes_so (λ past. Unit {0}) (ServesAll b) OwnsNone o b old new (λ past own done so. so.0) h

-- ---- what else a call leaves

pub serving_on : (So : Past → List Entry → Past → Type 0) (a b : Server) (old new : List Act) → Goes So a old b new → IsServing old a → IsServing new b
serving_on So a b old new h s =
    let w = h s.given s.before s.past s.kept tt in
    record { given = s.given; before = s.before; past = w.done ++ s.past; kept = w.kept }

pub within_on : (a b : Server) (n : ℕ) → SameNumbers a b → n < length a.connections.items → n < length b.connections.items
within_on a b n h low = within a.connections.items b.connections.items n low (λ k is. (h n (number_of k)).0 (at_there n k a.connections.items is))
  where
    within : (ks ls : List Connection) (n : ℕ) → n < length ks → ((k : Connection) → slice_get ks n ≡ Some k → IsAt n (number_of k) ls) → n < length ls
    within [] ls n low on = absurd (omega (arith, low))
    within (x ∷ ks) ls n low on =
        let is = slice_get-get_or (x ∷ ks) n x low in
        let there = on (get_or (x ∷ ks) n x) is in
        slice_get_within ls n there.connection there.there

-- no more are there
pub long_on : (a b : Server) → SameNumbers a b → length b.connections.items ≤ length a.connections.items
long_on a b h =
    ⊎_elim
    (λ more. absurd (let low = within_on b a (length a.connections.items) (λ n c. ((h n c).1, (h n c).0)) more in omega (arith, low))) (λ few. few)
    (cases_lt (length a.connections.items) (length b.connections.items))

sends_quiet : (c : ℕ) (more : List Act) → list_all (is_send c) more ≡ true → list_all (λ (act : Act). is_quiet (Does act)) more ≡ true
sends_quiet c [] h = refl
sends_quiet c (acts.Takes d bytes answer ∷ more) h = sends_quiet c more (and_parts (d == c) (list_all (is_send c) more) h).1
sends_quiet c (acts.Starts listen control ∷ more) h = absurd (cc h)
sends_quiet c (acts.Gives t bytes ∷ more) h = absurd (cc h)
sends_quiet c (acts.Closes d ∷ more) h = absurd (cc h)

pub sends_quietly : (c : ℕ) (old new : List Act) → OnlySends c old new → IsQuietly old new
sends_quietly c old new h = record { acts = h.0; log = h.1; quiet = sends_quiet c h.0 h.2 }

-- ---- to how many no send failed

abbrev is_unfailed : Connection → Bool
is_unfailed k = not k.queue.failed

-- one became another
pub unfailed_set : (a b : Server) (at : ℕ) (k l : Connection) → slice_get a.connections.items at ≡ Some k → b.connections.items ≡ set a.connections.items at l
    → unfailed b + cond (is_unfailed k) 1 0 ≡ unfailed a + cond (is_unfailed l) 1 0
unfailed_set a b at k l there set_is =
    ap (λ (ks : List Connection). count_by is_unfailed ks + cond (is_unfailed k) 1 0) set_is
    ∙ ap (λ (x : Connection). count_by is_unfailed (set a.connections.items at l) + cond (is_unfailed x) 1 0) (sym (get_or_from_slice_get a.connections.items at k k there))
    ∙ sum_by-set (λ (x : Connection). cond (is_unfailed x) 1 0) a.connections.items at l k (slice_get_within a.connections.items at k there)

same_count : (x y c : ℕ) → x + c ≡ y + c → x ≡ y
same_count x y c e = omega (arith, e)

fewer_same : (a b d : Server) (failed : Bool) → unfailed b ≡ unfailed a → FewerUnfailed failed b d → FewerUnfailed failed a d
fewer_same a b d true e h = omega (arith, e, h)
fewer_same a b d false e h = omega (arith, e, h)

taken_unfailed : {at : ℕ} {a b : Server} → TakesOut at a b → unfailed b ≡ unfailed a
taken_unfailed {at} {a} {b} h =
    same_count (unfailed b) (unfailed a) (cond (not h.connection.queue.failed) 1 0)
    (unfailed_set a b at h.connection (record h.connection { queue = record h.connection.queue { rest = h.connection.queue.rest ++ h.bytes } }) h.there h.connections)

left_unfailed : {at : ℕ} {fault : Bool} {d e : Server} → Leaves at fault d e → unfailed e ≡ unfailed d
left_unfailed {at} {fault} {d} {e} h =
    same_count (unfailed e) (unfailed d) (cond (not h.connection.queue.failed) 1 0)
    (unfailed_set d e at h.connection (record h.connection { inbound = h.behind; cut = h.connection.cut || is_live h.connection.inbound.stage }) h.there h.all)

one_fewer : (failed : Bool) (b d : Server) → unfailed d + 1 ≡ unfailed b + cond (not failed) 1 0 → FewerUnfailed failed b d
one_fewer true b d e = omega (arith, e)
one_fewer false b d e = omega (arith, e)

sent_unfailed : {at : ℕ} {failed : Bool} {b d : Server} {from to : BoardView} → SendsOut at failed b d from to → FewerUnfailed failed b d
sent_unfailed {at} {failed} {b} {d} {from} {to} h =
    let k = h.connection in
    let e = unfailed_set b d at k (record k { queue = h.queue }) h.there h.connections in
    ⊎_elim
    (λ (w : (k.queue.failed ≡ true) × (failed ≡ false) × (h.queue ≡ k.queue) × (to.log ≡ from.log)).
    subst (λ (f : Bool). FewerUnfailed f b d) (sym w.1)
    (let same = same_count (unfailed d) (unfailed b) (cond (not k.queue.failed) 1 0) (e ∙ ap (λ (q : QueueView). unfailed b + cond (not q.failed) 1 0) w.2) in
    omega (arith, same))) (λ (w : (k.queue.failed ≡ false) × (r : Reach) × (failed ≡ is_failed_reach r) × SendsAll (Ok r) k.queue h.queue from to).
    one_fewer failed b d (ap (λ (f : Bool). unfailed d + cond (not f) 1 0) (sym w.0) ∙ e ∙ ap (λ (f : Bool). unfailed b + cond (not f) 1 0) (w.3.failed ∙ sym w.2)))
    h.how

-- whether one failed, as a test tells
pub sent_so : {at : ℕ} {f g : Bool} {b d : Server} {from to : BoardView} → f ≡ g → SendsOut at f b d from to → SendsOut at g b d from to
sent_so {at} {b = b} {d = d} {from = from} {to = to} e sends = subst (λ (f : Bool). SendsOut at f b d from to) e sends

pub fewer_sent : {at : ℕ} {failed : Bool} {a b d : Server} {from to : BoardView} → TakesOut at a b → SendsOut at failed b d from to → FewerUnfailed failed a d
fewer_sent {failed = failed} {a} {b} {d} takes sends = fewer_same a b d failed (taken_unfailed takes) (sent_unfailed sends)

pub fewer_left : {at : ℕ} {a b d e : Server} {from to : BoardView} → TakesOut at a b → SendsOut at true b d from to → Leaves at true d e → FewerUnfailed true a e
fewer_left {a = a} {d = d} takes sends leaves =
    let few : unfailed d < unfailed a = fewer_sent takes sends in
    let same = left_unfailed leaves in
    omega (arith, few, same)

-- ---- the others

pub others_sent : {at : ℕ} {failed : Bool} {a b d : Server} {from to : BoardView} → TakesOut at a b → SendsOut at failed b d from to → OthersStay at a d
others_sent {at} {a = a} {b = b} takes sends n other =
    ap (λ (ks : List Connection). slice_get ks n) sends.connections
    ∙ set_beside b.connections.items at n (record sends.connection { queue = sends.queue }) other
    ∙ ap (λ (ks : List Connection). slice_get ks n) takes.connections
    ∙ set_beside a.connections.items at n
    (record takes.connection { queue = record takes.connection.queue { rest = takes.connection.queue.rest ++ takes.bytes } }) other

pub others_left : {at : ℕ} {a b d e : Server} {from to : BoardView} → TakesOut at a b → SendsOut at true b d from to → Leaves at true d e → OthersStay at a e
others_left {at} {d = d} takes sends leaves n other =
    ap (λ (ks : List Connection). slice_get ks n) leaves.all
    ∙ set_beside d.connections.items at n
    (record leaves.connection { inbound = leaves.behind; cut = leaves.connection.cut || is_live leaves.connection.inbound.stage }) other
    ∙ others_sent takes sends n other

pub fewer_then : (p q : Bool) (a b d : Server) → FewerUnfailed p a b → FewerUnfailed q b d → FewerUnfailed (p || q) a d
fewer_then true true a b d h k = omega (arith, h, k)
fewer_then true false a b d h k = omega (arith, h, k)
fewer_then false true a b d h k = omega (arith, h, k)
fewer_then false false a b d h k = omega (arith, h, k)

-- ---- what waits in the machine

-- of those ahead of this index
pub record EmptiesBelow (at : ℕ) (failed : Bool) (s : Server) : Type 0 where
  pub none : s.desk.now.jobs ≡ []
  pub all : failed ≡ false → (n : ℕ) → n < at → TakenAt n s

pub empties_none : (s : Server) → s.desk.now.jobs ≡ [] → EmptiesBelow 0 false s
empties_none s h = record { none = h; all = λ fine n low. absurd (omega (arith, low)) }

pub empties_then : (at : ℕ) (p q : Bool) (a b : Server) → EmptiesBelow at p a → Empties at q a b → EmptiesBelow (at + 1) (p || q) b
empties_then at p q a b h k = record {
  none = k.none;
  all = λ fine n low. ⊎_elim
      (λ same. subst (λ (m : ℕ). TakenAt m b) (sym same) (k.own (or_parts p q fine).1))
      (λ other. k.others (or_parts p q fine).1 n other (h.all (or_parts p q fine).0 n (omega (arith, low, other)))) (cases_eq n at);
}

pub empties_all : (count : ℕ) (failed : Bool) (s : Server) → length s.connections.items ≤ count → EmptiesBelow count failed s → EmptiesAll failed s
empties_all count failed s long h = record {
  none = h.none;
  all = λ fine n k is. h.all fine n (let low = slice_get_within s.connections.items n k is in omega (arith, low, long)) k is;
}

-- no send failed in the last round
pub still_now : (failed : Bool) (s : Server) → failed ≡ false → EmptiesAll failed s → IsStill s
still_now failed s fine h = record { jobs = h.none; taken = h.all fine }
