-- Messages that are heard, one behind the other.
use Rattle.std.proofs.Common.{◌≡◌, ℕ, Bool, true, false, ◌&&◌, ◌||◌, not, map, List, [], ◌++◌, append-nil, refl, sym, ap, ◌∙◌, subst, inl}
use Rattle.std.proofs.lemmas.Bool.{or_right}
use Rattle.std.proofs.lemmas.List.{append_assoc, map-append}
use Rattle.std.proofs.lemmas.List.Folds.{list_any-append}
use Rattle.maple_io.specs.declared.act.Act.{Act}
use Rattle.machine_steps.specs.declared.entry.Entry.{Entry}
use Rattle.machine_steps.specs.declared.entry.Entry.TheVariants as entries
use Rattle.machine_steps.specs.declared.entry.Input.{Input}
use Rattle.sim_steps.specs.Agreeing.{AreCut}
use Rattle.serve_steps.specs.Deeds.{Past, bytes_of, ends, inputs_of, is_open, is_over, was_accepted}
use Rattle.serve_channels.specs.declared.connection.Connection.{Connection}
use Rattle.machine_desk.specs.declared.hearing.Came.{Came}
use Rattle.machine_desk.specs.declared.hearing.Came.TheVariants.{Nothing, Message, Ended}
use Rattle.machine_desk.specs.Hearing.{goes_on}
use Rattle.machine_desk.proofs.Tended.{same_self, same_then}
use Rattle.serve_channels.specs.declared.server.Server.{Server}
use Rattle.serve_channels.specs.Hearing.{Hears, HearsWhile, UpTo}
use Rattle.serve_channels.specs.Keeping.{Agrees, Goes, ServesSome}
use Rattle.serve_channels.specs.Passing.{HearsAt, HearsSome}
use Rattle.serve_channels.specs.Servers.{IsAt, IsMissing, IsSame, SameNumbers, number_of, home}
use Rattle.serve_channels.proofs.Numbered.{numbers_then, stay_known, numbers_same}
use Rattle.serve_channels.proofs.Rounds.{serving_on}
use Rattle.serve_channels.proofs.Stretching.{goes_so, goes_then, went_nowhere}

-- ---- open sessions

shut_still : (a o p : Bool) → (a && not o) ≡ false → (a && not (p || o)) ≡ false
shut_still false o p e = refl
shut_still true true false e = refl
shut_still true true true e = refl
shut_still true false p e = absurd (cc)

shut_is_over : (a b o p : Bool) → (a && not o) ≡ true → b ≡ a → (b && not (p || o)) ≡ false → (p || o) ≡ true
shut_is_over true true false true e f g = refl
shut_is_over true true false false e f g = absurd (cc)
shut_is_over true true true p e f g = absurd (cc)
shut_is_over true false o p e f g = absurd (cc)
shut_is_over false b o p e f g = absurd (cc)

module _ (c : ℕ) (done past : Past) (accepted : was_accepted c (done ++ past) ≡ was_accepted c past) where
  over_now : is_over c (done ++ past) ≡ (is_over c done || is_over c past)
  over_now = list_any-append (ends c) done past

  -- what isn't open stays so, where none is opened
  stays_shut : is_open c past ≡ false → is_open c (done ++ past) ≡ false
  stays_shut e = rw (accepted, over_now) (shut_still (was_accepted c past) (is_over c past) (is_over c done) e)

  -- what is open no more is over
  is_over_then : is_open c past ≡ true → is_open c (done ++ past) ≡ false → is_over c (done ++ past) ≡ true
  is_over_then e f =
      over_now
      ∙ shut_is_over (was_accepted c past) (was_accepted c (done ++ past)) (is_over c past) (is_over c done) e accepted
      (ap (λ b. was_accepted c (done ++ past) && not b) (sym over_now) ∙ f)

stays_over : (c : ℕ) (more past : Past) → is_over c past ≡ true → is_over c (more ++ past) ≡ true
stays_over c more past e = list_any-append (ends c) more past ∙ or_right (is_over c more) (is_over c past) e

up_to_end : (k : Came) (c : ℕ) (past : Past) (rest : List ℕ) → is_over c past ≡ true → UpTo k c past rest
up_to_end Nothing c past rest over = inl over
up_to_end Ended c past rest over = over
up_to_end k c past rest over = tt

-- ---- some, and then more

module _ (c : ℕ) (k : Came) (past : Past) (ours theirs : List Entry) (first more : Past) (h : HearsSome c Message past ours first) (n : HearsSome c k (first ++ past) theirs more) where
  abbrev all_of : List Input
  all_of = h.inputs ++ n.inputs

  place : (more ++ first) ++ past ≡ more ++ (first ++ past)
  place = append_assoc more first past

  entries_all : ours ++ theirs ≡ map (entries.Heard c) all_of
  entries_all =
      ap (λ es. es ++ theirs) h.entries_are ∙ ap (λ es. map (entries.Heard c) h.inputs ++ es) n.entries_are ∙ sym (map-append (entries.Heard c) h.inputs n.inputs)

  heard_all : inputs_of c ((more ++ first) ++ past) ≡ inputs_of c past ++ all_of
  heard_all = ap (inputs_of c) place ∙ n.heard ∙ ap (λ is. is ++ n.inputs) h.heard ∙ append_assoc (inputs_of c past) h.inputs n.inputs

  bytes_all : bytes_of c ((more ++ first) ++ past) ≡ bytes_of c past
  bytes_all = ap (bytes_of c) place ∙ n.bytes ∙ h.bytes

  accepted_all : was_accepted c ((more ++ first) ++ past) ≡ was_accepted c past
  accepted_all = ap (was_accepted c) place ∙ n.accepted ∙ h.accepted

  silent_all : is_open c past ≡ false → all_of ≡ []
  silent_all e = ap (λ is. is ++ n.inputs) (h.silent e) ∙ n.silent (stays_shut c first past h.accepted e)

  hears_with : (rest : List ℕ) → (is_open c past ≡ true → AreCut 0 (inputs_of c past ++ all_of) (bytes_of c past) rest)
      → (is_open c past ≡ true → UpTo k c ((more ++ first) ++ past) rest) → HearsSome c k past (ours ++ theirs) (more ++ first)
  hears_with rest cut up_to = record {
    inputs = all_of;
    rest = rest;
    entries_are = entries_all;
    heard = heard_all;
    bytes = bytes_all;
    accepted = accepted_all;
    silent = silent_all;
    cut = cut;
    up_to = up_to;
  }

  hears_then : HearsSome c k past (ours ++ theirs) (more ++ first)
  hears_then = go (is_open c (first ++ past)) refl
    where
      go : (b : Bool) → is_open c (first ++ past) ≡ b → HearsSome c k past (ours ++ theirs) (more ++ first)
      go true e =
          hears_with n.rest
          (λ was. subst (λ bs. AreCut 0 (inputs_of c past ++ all_of) bs n.rest) h.bytes
          (subst (λ is. AreCut 0 is (bytes_of c (first ++ past)) n.rest) (ap (λ is. is ++ n.inputs) h.heard ∙ append_assoc (inputs_of c past) h.inputs n.inputs) (n.cut e)))
          (λ was. subst (λ p. UpTo k c p n.rest) (sym place) (n.up_to e))
      go false e =
          hears_with h.rest
          (λ was. subst (λ is. AreCut 0 (inputs_of c past ++ is) (bytes_of c past) h.rest) (sym (append-nil h.inputs) ∙ ap (λ is. h.inputs ++ is) (sym (n.silent e))) (h.cut was))
          (λ was. up_to_end k c ((more ++ first) ++ past) h.rest
          (ap (is_over c) place ∙ stays_over c more (first ++ past) (is_over_then c first past h.accepted was e)))

-- nothing is heard yet
hears_none : (c : ℕ) (past : Past) (k : Connection) → Agrees past k → number_of k ≡ c → HearsSome c Message past [] []
hears_none c past k a e = record {
  inputs = [];
  rest = k.inbound.from.stream.rest;
  entries_are = refl;
  heard = sym (append-nil (inputs_of c past));
  bytes = refl;
  accepted = refl;
  silent = λ was. refl;
  cut = λ was. subst (λ n. AreCut 0 (inputs_of n past ++ []) (bytes_of n past) k.inbound.from.stream.rest) e
      (subst (λ is. AreCut 0 is (bytes_of (number_of k) past) k.inbound.from.stream.rest) (sym (append-nil (inputs_of (number_of k) past)))
      (a.heard (sym a.live ∙ ap (λ n. is_open n past) e ∙ was)).cut);
  up_to = λ was. tt;
}

-- ---- all

is_up_to : (k : Came) (c : ℕ) (past : Past) (rest : List ℕ) → goes_on k ≡ false → UpTo k c past rest → UpTo Nothing c past rest
is_up_to Nothing c past rest last h = h
is_up_to Ended c past rest last h = inl h
is_up_to k c past rest last h = absurd (cc)

hears_all : (c : ℕ) (k : Came) → goes_on k ≡ false → (past : Past) (own : List Entry) (done : Past) → HearsSome c k past own done → Hears c Nothing past own done
hears_all c k last past own done h = go (is_open c past) refl
  where
    go : (b : Bool) → is_open c past ≡ b → HearsWhile b c Nothing past own done
    go true e = record { inputs = h.inputs; rest = h.rest; entries_are = h.entries_are; cut = h.cut e; up_to = is_up_to k c (done ++ past) h.rest last (h.up_to e) }
    go false e = h.entries_are ∙ ap (map (entries.Heard c)) (h.silent e)

-- more may come
hears_more : (c : ℕ) (k : Came) (past : Past) (own : List Entry) (done : Past) → HearsSome c k past own done → HearsSome c Message past own done
hears_more c k past own done h = record {
  inputs = h.inputs;
  rest = h.rest;
  entries_are = h.entries_are;
  heard = h.heard;
  bytes = h.bytes;
  accepted = h.accepted;
  silent = h.silent;
  cut = h.cut;
  up_to = λ was. tt;
}

-- ---- a call under way

-- messages of the connection with this index were heard so far
pub record HearsOn (c at : ℕ) (old now : Server) : Type 0 where
  pub there : IsAt at c now.connections.items
  pub serves : ServesSome now
  pub goes : (log : List Act) → Goes (HearsSome c Message) old log now log
  pub numbers : SameNumbers old now
  pub same : IsSame old now

pub on_none : (c at : ℕ) (s : Server) → IsAt at c s.connections.items → ServesSome s → HearsOn c at s s
on_none c at s is serves = record {
  there = is;
  serves = serves;
  goes = λ log g before past kept pre.
      went_nowhere g before (HearsSome c Message past) past log s (hears_none c past is.connection (kept.agree at is.connection is.there) is.number) kept;
  numbers = numbers_same s;
  same = same_self home s;
}

module _ (c at : ℕ) (k : Came) (old now new : Server) (h : HearsOn c at old now) (next : HearsAt at k now new) (numbers : SameNumbers now new) (same : IsSame now new) where
  goes_now : (log : List Act) → Goes (HearsSome c k) old log new log
  goes_now log =
      goes_then (λ past. Unit {0}) (HearsSome c Message) (HearsSome c k) (HearsSome c k) old now new log log log
      (λ past ours theirs first more x y. hears_then c k past ours theirs first more x y) (stay_known now new numbers) (h.goes log) (next.goes c h.there log)

  pub numbers_now : SameNumbers old new
  numbers_now = numbers_then old now new h.numbers numbers

  pub same_now : IsSame old new
  same_now = same_then home h.same same

  -- what came is heard, and more may come
  pub on_more : HearsOn c at old new
  on_more = record {
    there = (numbers at c).0 h.there;
    serves = (h.serves.0, serving_on (HearsSome c k) now new h.serves.0 h.serves.0 (next.goes c h.there h.serves.0) h.serves.1);
    goes = λ log. goes_so (λ past. Unit {0}) (HearsSome c k) (HearsSome c Message) old new log log (hears_more c k) (goes_now log);
    numbers = numbers_now;
    same = same_now;
  }

  -- no more
  pub on_last : goes_on k ≡ false → (log : List Act) → Goes (Hears c Nothing) old log new log
  on_last last log = goes_so (λ past. Unit {0}) (HearsSome c k) (Hears c Nothing) old new log log (hears_all c k last) (goes_now log)

-- of a number that isn't there
pub heard_missing : (c : ℕ) (s : Server) → IsMissing c s.connections.items → (log : List Act) → Goes (Hears c Nothing) s log s log
heard_missing c s missing log g before past kept pre =
    went_nowhere g before (Hears c Nothing past) past log s (subst (λ b. HearsWhile b c Nothing past [] []) (sym (kept.forgotten c (missing kept.sorted)).shut) refl) kept
