-- What a server keeps, from before to behind: where nothing is done with any connection, with all but one, or with all but a new one.
use Rattle.std.proofs.Common.{◌≡◌, ◌⊎◌, ℕ, true, false, List, [], ◌++◌, set, sym, ap, ◌∙◌, subst, inl, inr, ⊎_elim}
use Rattle.std.specs.Prelude.{Some, is_some}
use Rattle.std.specs.List.{insert, slice_get}
use Rattle.std.proofs.lemmas.Bool.{cases_Bool, cases_eq}
use Rattle.std.proofs.lemmas.Option.{same_Some}
use Rattle.maple_io.specs.declared.act.Act.{Act}
use Rattle.maple_io.specs.Boards.{was_opened}
use Rattle.machine_steps.specs.Machine.{State, opening, session_at}
use Rattle.machine_steps.specs.Machine.{was_opened as was_session}
use Rattle.machine_desk.specs.Desks.{Footing}
use Rattle.machine_desk.specs.Hearing.{IsStaged}
use Rattle.machine_desk.specs.declared.inbound.Inbound.{Inbound}
use Rattle.core_machine.proofs.Hearing.{set_there}
use Rattle.machine_desk.proofs.Lists.{set_beside}
use Rattle.machine_desk.proofs.Tended.{same_by, staffed_on}
use Rattle.serve_steps.specs.Deeds.{Past, acts_of, bytes_of, turns_of}
use Rattle.serve_steps.specs.Parts.{Given}
use Rattle.serve_channels.specs.declared.connection.Connection.{Connection}
use Rattle.serve_channels.specs.declared.server.Server.{Server}
use Rattle.serve_channels.specs.Keeping.{Agrees, IsForgotten, IsKept, IsUnused, Keeps}
use Rattle.serve_channels.specs.Servers.{AreSorted, IsAt, IsGap, IsKnown, IsSame, IsUnknown, WorksAlone, number_of, home}
use Rattle.serve_channels.proofs.Alike.{IsAlike, agrees_alike, forgotten_alike, unused_alike}
use Rattle.serve_channels.proofs.Sorted.{apart, at_there, inserted_from, inserted_number, inserted_unknown, none_at, sorted_insert}

-- ---- whatever is known of packets that wait

abbrev pub IsKeptBut : Given → List Act → Past → List Act → Server → Type 0
IsKeptBut g before past log s = Keeps g before past log s (Unit {0})

pub kept_with : {g : Given} {before : List Act} {past : Past} {log : List Act} {s : Server} {Jobs Others : Type 0} → Keeps g before past log s Jobs → Others
    → Keeps g before past log s Others
kept_with h jobs = record {
  start = h.start;
  turns = h.turns;
  acts = h.acts;
  sorted = h.sorted;
  agree = h.agree;
  forgotten = h.forgotten;
  unused = h.unused;
  sessions = h.sessions;
  crew = h.crew;
  jobs = jobs;
}

pub kept_but : {g : Given} {before : List Act} {past : Past} {log : List Act} {s : Server} → IsKept g before past log s → IsKeptBut g before past log s
kept_but h = kept_with h tt

pub kept_whole : {g : Given} {before : List Act} {past : Past} {log : List Act} {s : Server} → IsKeptBut g before past log s → (WorksAlone s → s.desk.now.jobs ≡ [])
    → IsKept g before past log s
kept_whole h jobs = kept_with h jobs

-- ---- the same server

-- where the desk knows more, and connections may change
pub same_but : (a b : Server) → b ≡ record a { desk = b.desk; connections = b.connections } → b.desk.footing ≡ a.desk.footing → IsSame a b
same_but a b rest = same_by home a b (ap (λ (x : Server). x.crew) rest)

pub same_connections : (a b : Server) → b ≡ record a { connections = b.connections } → IsSame a b
same_connections a b rest = same_by home a b (ap (λ (x : Server). x.crew) rest) (ap (λ (x : Server). x.desk.footing) rest)

-- ---- connections

pub number_there : (at c : ℕ) (k : Connection) (ks : List Connection) → slice_get ks at ≡ Some k → IsAt at c ks → number_of k ≡ c
number_there at c k ks there is = ap number_of (same_Some k is.connection (sym there ∙ is.there)) ∙ is.number

-- an unknown number isn't that of one that is there
pub not_there : (at c : ℕ) (k : Connection) (ks : List Connection) → slice_get ks at ≡ Some k → IsUnknown c ks → number_of k ≡ c → ⊥
not_there at c k ks there unknown e = unknown (at, record { connection = k; there = there; number = e })

swapped : {A B : Type 0} → A ⊎ B → B ⊎ A
swapped (inl a) = inr a
swapped (inr b) = inl b

-- one became another with the same number: the same numbers are there
pub set_numbers : (ks ls : List Connection) (at : ℕ) (k l : Connection) → slice_get ks at ≡ Some k → ls ≡ set ks at l → number_of l ≡ number_of k
    → (n c : ℕ) → (IsAt n c ks → IsAt n c ls) × (IsAt n c ls → IsAt n c ks)
set_numbers ks ls at k l there set_is number n c = by (cases_eq n at)
  where
    is_there : slice_get ls at ≡ Some l
    is_there = ap (λ xs. slice_get xs at) set_is ∙ set_there ks at k l there

    beside : (n ≡ at → ⊥) → slice_get ls n ≡ slice_get ks n
    beside other = ap (λ xs. slice_get xs n) set_is ∙ set_beside ks at n l other

    by : (n ≡ at) ⊎ (n ≡ at → ⊥) → (IsAt n c ks → IsAt n c ls) × (IsAt n c ls → IsAt n c ks)
    by (inl same) = (
      λ is. record {
        connection = l;
        there = ap (slice_get ls) same ∙ is_there;
        number = number ∙ number_there at c k ks there (subst (λ m. IsAt m c ks) same is);
      },
      λ is. record {
        connection = k;
        there = ap (slice_get ks) same ∙ there;
        number = sym number ∙ number_there at c l ls is_there (subst (λ m. IsAt m c ls) same is);
      },
    )
    by (inr other) = (
      λ is. record { connection = is.connection; there = beside other ∙ is.there; number = is.number },
      λ is. record { connection = is.connection; there = sym (beside other) ∙ is.there; number = is.number },
    )

-- a number that isn't there behind it wasn't there, and isn't that one's
pub set_unknown : (ks ls : List Connection) (at : ℕ) (k l : Connection) → slice_get ks at ≡ Some k → ls ≡ set ks at l → number_of l ≡ number_of k → (c : ℕ) → IsUnknown c ls
    → IsUnknown c ks × (c ≡ number_of k → ⊥)
set_unknown ks ls at k l there set_is number c unknown =
    let was : IsUnknown c ks = λ known. unknown (known.0, (set_numbers ks ls at k l there set_is number known.0 c).0 known.1) in
    (was, λ e. not_there at c k ks there was (sym e))

-- ---- a session stays

pub record IsSessionStill (c : ℕ) (m n : State) : Type 0 where
  pub live : is_some (session_at c n) ≡ is_some (session_at c m)
  pub opened : was_session c n ≡ was_session c m

pub staged_still : (i : Inbound) (m n : State) → IsSessionStill i.connection m n → IsStaged i m → IsStaged i n
staged_still i m n h k = record { live = h.live ∙ k.live; opened = h.opened ∙ k.opened }

-- nothing was done with a connection; on one that isn't there bytes may have come, and it may have been opened
pub record IsLeft (past after : Past) (a b : Server) (c : ℕ) : Type 0 where
  pub alike : IsAlike c past after
  pub bytes : IsKnown c a.connections.items → bytes_of c after ≡ bytes_of c past
  pub session : IsSessionStill c a.desk.now b.desk.now

-- the desk and the log are as the deeds tell
pub record IsTold (before : List Act) (after : Past) (log : List Act) (a b : Server) : Type 0 where
  pub same : IsSame a b
  pub turns : b.desk.past ≡ turns_of after
  pub acts : log ≡ before ++ acts_of after
  pub settings : b.desk.now.settings ≡ a.desk.now.settings

-- ---- nothing was done with any

module _ {g : Given} {before : List Act} {past after : Past} {old_log log : List Act} {a b : Server} (kept : IsKeptBut g before past old_log a) (told : IsTold before after log a b) where
  start_is : b.desk.footing.start ≡ opening g.policy g.settings
  start_is = ap (λ (f : Footing). f.start) told.same.footing ∙ kept.start

  never_opened : (c : ℕ) → IsLeft past after a b c → was_opened c (acts_of after) ≡ false → was_opened c (acts_of past) ≡ false
  never_opened c left none =
      ⊎_elim (λ was. (let f : true ≡ false = sym (left.alike.opened was) ∙ none in absurd (cc))) (λ was. was) (cases_Bool (was_opened c (acts_of past)))

  unused_left : (c : ℕ) → IsLeft past after a b c → was_opened c (acts_of after) ≡ false → IsUnused c after × (was_session c b.desk.now ≡ false)
  unused_left c left none = (let was = kept.unused c (never_opened c left none) in (unused_alike c past after left.alike was.0, left.session.opened ∙ was.1))

  forgotten_left : (c : ℕ) → IsLeft past after a b c → IsUnknown c a.connections.items → IsForgotten c after
  forgotten_left c left unknown = forgotten_alike c past after left.alike (kept.forgotten c unknown)

  alone_left : (c : ℕ) → IsLeft past after a b c → IsUnknown c a.connections.items → is_some (session_at c b.desk.now) ≡ false
  alone_left c left unknown = left.session.live ∙ kept.sessions.others c unknown

  agrees_left : (at : ℕ) (k : Connection) → IsLeft past after a b (number_of k) → slice_get a.connections.items at ≡ Some k → Agrees after k
  agrees_left at k left there = agrees_alike k past after left.alike (left.bytes (at, at_there at k a.connections.items there)) (kept.agree at k there)

  staged_left : (at : ℕ) (k : Connection) → IsLeft past after a b (number_of k) → slice_get a.connections.items at ≡ Some k → IsStaged k.inbound b.desk.now
  staged_left at k left there = staged_still k.inbound a.desk.now b.desk.now left.session (kept.sessions.staged at k there)

  pub kept_same : b.connections.items ≡ a.connections.items → ((c : ℕ) → IsLeft past after a b c) → IsKeptBut g before after log b
  kept_same e left = record {
    start = start_is;
    turns = told.turns;
    acts = told.acts;
    sorted = subst AreSorted (sym e) kept.sorted;
    agree = λ at k there. agrees_left at k (left (number_of k)) (sym (ap (λ ks. slice_get ks at) e) ∙ there);
    forgotten = λ c unknown. forgotten_left c (left c) (subst (IsUnknown c) e unknown);
    unused = λ c none. unused_left c (left c) none;
    sessions = record {
      staged = λ at k there. staged_left at k (left (number_of k)) (sym (ap (λ ks. slice_get ks at) e) ∙ there);
      others = λ c unknown. alone_left c (left c) (subst (IsUnknown c) e unknown);
    };
    crew = staffed_on home told.same told.settings kept.crew;
    jobs = tt;
  }

  -- ---- nothing was done with any but one, which became another

  module _ (at : ℕ) (k l : Connection) (there : slice_get a.connections.items at ≡ Some k) (set_is : b.connections.items ≡ set a.connections.items at l)
      (number : number_of l ≡ number_of k) (here : Agrees after l) (staged : IsStaged l.inbound b.desk.now)
      (others : (c : ℕ) → (c ≡ number_of k → ⊥) → IsLeft past after a b c) where
    is_there : slice_get b.connections.items at ≡ Some l
    is_there = ap (λ ks. slice_get ks at) set_is ∙ set_there a.connections.items at k l there

    beside : (n : ℕ) → (n ≡ at → ⊥) → slice_get b.connections.items n ≡ slice_get a.connections.items n
    beside n other = ap (λ ks. slice_get ks n) set_is ∙ set_beside a.connections.items at n l other

    by_place : (P : Connection → Type 0) → P l → ((n : ℕ) (x : Connection) → (n ≡ at → ⊥) → slice_get a.connections.items n ≡ Some x → P x)
        → (n : ℕ) (x : Connection) → slice_get b.connections.items n ≡ Some x → P x
    by_place P this that n x e =
        ⊎_elim
        (λ same. subst P (same_Some l x (sym is_there ∙ ap (slice_get b.connections.items) (sym same) ∙ e)) this)
        (λ other. that n x other (sym (beside n other) ∙ e)) (cases_eq n at)

    numbers : (n c : ℕ) → (IsAt n c a.connections.items → IsAt n c b.connections.items) × (IsAt n c b.connections.items → IsAt n c a.connections.items)
    numbers = set_numbers a.connections.items b.connections.items at k l there set_is number

    gone : (c : ℕ) → IsUnknown c b.connections.items → IsUnknown c a.connections.items × (c ≡ number_of k → ⊥)
    gone = set_unknown a.connections.items b.connections.items at k l there set_is number

    other_number : (n : ℕ) (x : Connection) → (n ≡ at → ⊥) → slice_get a.connections.items n ≡ Some x → number_of x ≡ number_of k → ⊥
    other_number n x other is = apart a.connections.items kept.sorted at n k x there is other

    never_this : (c : ℕ) → (c ≡ number_of k → ⊥) ⊎ (c ≡ number_of k) → was_opened c (acts_of after) ≡ false → IsLeft past after a b c
    never_this c (inl other) none = others c other
    never_this c (inr same) none = (let f : true ≡ false = sym here.opened ∙ ap (λ n. was_opened n (acts_of after)) (number ∙ sym same) ∙ none in absurd (cc))

    pub kept_at : IsKeptBut g before after log b
    kept_at = record {
      start = start_is;
      turns = told.turns;
      acts = told.acts;
      sorted = λ i j c d up first second. kept.sorted i j c d up ((numbers i c).1 first) ((numbers j d).1 second);
      agree = by_place (Agrees after) here (λ n x other is. agrees_left n x (others (number_of x) (other_number n x other is)) is);
      forgotten = λ c unknown. forgotten_left c (others c (gone c unknown).1) (gone c unknown).0;
      unused = λ c none. unused_left c (never_this c (swapped (cases_eq c (number_of k))) none) none;
      sessions = record {
        staged = by_place (λ x. IsStaged x.inbound b.desk.now) staged (λ n x other is. staged_left n x (others (number_of x) (other_number n x other is)) is);
        others = λ c unknown. alone_left c (others c (gone c unknown).1) (gone c unknown).0;
      };
      crew = staffed_on home told.same told.settings kept.crew;
      jobs = tt;
    }

  -- ---- a new one is there, with which nothing was done before

  module _ (at : ℕ) (l : Connection) (gap : IsGap at (number_of l) a.connections.items) (insert_is : b.connections.items ≡ insert a.connections.items at l)
      (here : Agrees after l) (staged : IsStaged l.inbound b.desk.now) (others : (c : ℕ) → (c ≡ number_of l → ⊥) → IsLeft past after a b c) where
    by_either : (P : Connection → Type 0) → P l → ((n : ℕ) (x : Connection) → slice_get a.connections.items n ≡ Some x → P x)
        → (n : ℕ) (x : Connection) → slice_get b.connections.items n ≡ Some x → P x
    by_either P this that n x e =
        ⊎_elim (λ new. subst P new.1 this) (λ was. that was.from x was.there) (inserted_from a.connections.items b.connections.items at l gap insert_is n x e)

    was_unknown : (c : ℕ) → IsUnknown c b.connections.items → IsUnknown c a.connections.items
    was_unknown = inserted_unknown a.connections.items b.connections.items at l gap insert_is

    not_new : (c : ℕ) → IsUnknown c b.connections.items → c ≡ number_of l → ⊥
    not_new = inserted_number a.connections.items b.connections.items at l gap insert_is

    old_number : (n : ℕ) (x : Connection) → slice_get a.connections.items n ≡ Some x → number_of x ≡ number_of l → ⊥
    old_number n x is e = none_at a.connections.items at (number_of l) gap kept.sorted (n, record { connection = x; there = is; number = e })

    never_new : (c : ℕ) → (c ≡ number_of l → ⊥) ⊎ (c ≡ number_of l) → was_opened c (acts_of after) ≡ false → IsLeft past after a b c
    never_new c (inl other) none = others c other
    never_new c (inr same) none = (let f : true ≡ false = sym here.opened ∙ ap (λ n. was_opened n (acts_of after)) (sym same) ∙ none in absurd (cc))

    pub kept_new : IsKeptBut g before after log b
    kept_new = record {
      start = start_is;
      turns = told.turns;
      acts = told.acts;
      sorted = sorted_insert a.connections.items b.connections.items at l gap insert_is kept.sorted;
      agree = by_either (Agrees after) here (λ n x is. agrees_left n x (others (number_of x) (old_number n x is)) is);
      forgotten = λ c none. forgotten_left c (others c (not_new c none)) (was_unknown c none);
      unused = λ c none. unused_left c (never_new c (swapped (cases_eq c (number_of l))) none) none;
      sessions = record {
        staged = by_either (λ x. IsStaged x.inbound b.desk.now) staged (λ n x is. staged_left n x (others (number_of x) (old_number n x is)) is);
        others = λ c none. alone_left c (others c (not_new c none)) (was_unknown c none);
      };
      crew = staffed_on home told.same told.settings kept.crew;
      jobs = tt;
    }
