-- What follows for each status from what comes of a run.
use Rattle.std.proofs.Common.{◌≡◌, ◌⊎◌, ℕ, ◌<◌, true, List, length, refl, sym, ◌∙◌, subst, inl, inr, arith}
use Rattle.policy_lang.specs.declared.Policy.{Policy}
use Rattle.serve_steps.specs.declared.end.ServeEnd.{ServeEnd}
use Rattle.serve_steps.specs.declared.end.ServeEnd.TheVariants as ends
use Rattle.command_words.specs.declared.words.Command.{Command}
use Rattle.maple_top.specs.declared.status.Status.{Status}
use Rattle.maple_top.specs.declared.status.Status.TheVariants as status
use Rattle.maple_top.specs.Due.{AreReading, AreWords, HasCommand, HasPolicy, IsDue, IsDueOf, IsExact, IsFault, IsFit, IsFitFor, IsOrUnwritten, most_bytes, refused}
use Rattle.maple_top.specs.Ends.{IsAside, IsCutting, IsGiven, IsOrCut, status_of}
use Rattle.maple_top.specs.Outcomes.{Comes, EndsAtRefused, Results, RunsPolicy, Switches}
use Rattle.maple_top.specs.Texts.{reads, texts_of}
use Rattle.maple_top.proofs.Endings.{of_cutting}

-- ---- words and an input are due one status

module _ (places : ℕ) (words : List (List ℕ)) (input : List ℕ) where
  one_command : (c d : Command) → HasCommand c words → HasCommand d words → c ≡ d
  one_command c d h g = let both = sym h ∙ g in cc

  -- what one command is due is all that its words are
  abbrev pub IsDueAs : Status → Type 0
  IsDueAs due = (command : Command) × HasCommand command words × IsFitFor command input × IsDueOf due places command (texts_of command input)

  one_due : (c : Command) (s t : Status) → IsDueOf s places c (texts_of c input) → IsDueOf t places c (texts_of c input) → s ≡ t
  one_due c status.Done status.Done d e = refl
  one_due c status.Done status.Script d e = absurd (let both = sym d.1 ∙ e.1.1 in cc)
  one_due c status.Done status.Policy d e = absurd (e d.0.0 d.0.1)
  one_due c status.Script status.Done d e = absurd (let both = sym e.1 ∙ d.1.1 in cc)
  one_due c status.Script status.Script d e = refl
  one_due c status.Script status.Policy d e = absurd (e d.0.0 d.0.1)
  one_due c status.Policy status.Done d e = absurd (d e.0.0 e.0.1)
  one_due c status.Policy status.Script d e = absurd (d e.0.0 e.0.1)
  one_due c status.Policy status.Policy d e = refl
  one_due c status.Done t d e = absurd e
  one_due c status.Script t d e = absurd e
  one_due c status.Policy t d e = absurd e
  one_due c s t d e = absurd d

  both_due : (s t : Status) → IsDueAs s → IsDueAs t → s ≡ t
  both_due s t (c, has, fit, d) (k, with, also, e) =
      one_due c s t d (subst (λ (x : Command). IsDueOf t places x (texts_of x input)) (one_command k c with has) e)

  not_long : (s : Status) → IsDueAs s → AreReading words → most_bytes < length input → ⊥
  not_long s (c, has, fit, d) (k, with, reading) long =
      let within : IsFit input = fit (subst (λ (x : Command). reads x ≡ true) (one_command k c with has) reading) in omega (arith, within, long)

  -- a status that is due, by what it is due for
  abbrev Due : Status → Type 0
  Due s = ((s ≡ status.Usage) × ¬ (AreWords words)) ⊎ (((s ≡ status.TooLong) × AreReading words × (most_bytes < length input)) ⊎ IsDueAs s)

  due_for : (s : Status) → IsDue s places words input → Due s
  due_for status.Usage d = inl (refl, d)
  due_for status.TooLong d = inr (inl (refl, d.0, d.1))
  due_for s d = inr (inr d)

  pub due_once : (s t : Status) → IsDue s places words input → IsDue t places words input → s ≡ t
  due_once s t d e = by (due_for s d) (due_for t e)
    where
      by : Due s → Due t → s ≡ t
      by (inl (is, none)) (inl (also, n)) = is ∙ sym also
      by (inl (is, none)) (inr (inl (also, (c, has, r), long))) = absurd (none (c, has))
      by (inl (is, none)) (inr (inr (c, has, fit, due))) = absurd (none (c, has))
      by (inr (inl (is, (c, has, r), long))) (inl (also, none)) = absurd (none (c, has))
      by (inr (inl (is, reading, long))) (inr (inl (also, r, l))) = is ∙ sym also
      by (inr (inl (is, reading, long))) (inr (inr due)) = absurd (not_long t due reading long)
      by (inr (inr (c, has, fit, due))) (inl (also, none)) = absurd (none (c, has))
      by (inr (inr due)) (inr (inl (also, reading, long))) = absurd (not_long s due reading long)
      by (inr (inr due)) (inr (inr other)) = both_due s t due other

-- ---- what comes is due

is_fault : (s : Status) → IsFault s ⊎ ¬ (IsFault s)
is_fault status.ReadFault = inl tt
is_fault status.WriteFault = inl tt
is_fault status.NoMemory = inl tt
is_fault status.BoardFault = inl tt
is_fault status.Worn = inl tt
is_fault s = inr (λ f. f)

-- a run that is cut short meets a fault
cut_by : (s : Status) → IsCutting s → IsFault s × ¬ (IsAside s) × ((s ≡ status.WriteFault) ⊎ (s ≡ status.NoMemory))
cut_by =
    of_cutting (λ (s : Status). IsFault s × ¬ (IsAside s) × ((s ≡ status.WriteFault) ⊎ (s ≡ status.NoMemory))) (tt, (λ a. a), inl refl) (tt, (λ a. a), inr refl)

module _ (ended unread : Type 0) (words : List (List ℕ)) (input : List ℕ) (before after : Switches) (kept last : List ℕ) where
  abbrev Came : Status → Type 0
  Came due = Comes ended unread words input before after due kept last

  abbrev Ran : Status → Type 0
  Ran due = RunsPolicy ended words input before after due kept last

  -- an end is due by whether a line is refused
  end_due : (command : Command) (end : ServeEnd) → EndsAtRefused end (refused command (length before.devices) (texts_of command input)) → ((policy : Policy) × HasPolicy policy (texts_of command input))
      → ¬ (IsFault (status_of end)) → IsDueOf (status_of end) (length before.devices) command (texts_of command input)
  end_due command ends.Done at has free = (has, at)
  end_due command (ends.Script line kind) at has free = (has, ((line, kind), at))
  end_due command end at has free = absurd (free tt)

  ran_due : (due : Status) → Ran due → ¬ (IsFault due) → IsDueAs (length before.devices) words input due
  ran_due due h free = (
    h.command,
    h.has_command,
    λ reading. (h.read reading).1,
    subst (λ (s : Status). IsDueOf s (length before.devices) h.command (texts_of h.command input)) (sym h.status_is)
        (end_due h.command h.end h.ran.refused_at (h.policy, h.has_policy) (λ f. free (subst IsFault (sym h.status_is) f))),
  )

  pub comes_due : (due : Status) → Came due → ¬ (IsFault due) → IsDue due (length before.devices) words input
  comes_due status.Done h free = ran_due status.Done h free
  comes_due status.Usage h free = h.0
  comes_due status.Policy h free = (h.command, h.has_command, (λ reading. (h.read reading).1), h.none)
  comes_due status.Script h free = ran_due status.Script h free
  comes_due status.TooLong h free = (h.0, h.1)
  comes_due due h free = absurd (free tt)

  -- all but the refusal of words, and want of memory, come of words in the grammar
  comes_words : (due : Status) → Came due → (due ≡ status.Usage) ⊎ ((due ≡ status.NoMemory) ⊎ AreWords words)
  comes_words status.Usage h = inl refl
  comes_words status.ReadFault h = let (c, has, r) = h.0 in inr (inr (c, has))
  comes_words status.NoMemory h = inr (inl refl)
  comes_words status.TooLong h = let (c, has, r) = h.0 in inr (inr (c, has))
  comes_words due h = inr (inr (h.command, h.has_command))

  comes_aside : (due : Status) → Came due → IsAside due → after ≡ before
  comes_aside status.Usage h a = h.1.same
  comes_aside status.Policy h a = h.is_text.same
  comes_aside status.ReadFault h a = h.2.same
  comes_aside status.TooLong h a = h.2.same
  comes_aside due h a = absurd a

-- ---- what follows

module _ (ended unread : Type 0) (words : List (List ℕ)) (input : List ℕ) (before after : Switches) (result : Status) (text : List ℕ)
    (r : Results ended unread words input before after result text) where
  abbrev IsCut : Type 0
  IsCut = IsOrCut r.came_to result r.kept r.last text

  -- its own status is due
  pub own_due : ¬ (IsFault result) → IsDue result (length before.devices) words input
  own_due free = by r.written
    where
      by : IsCut → IsDue result (length before.devices) words input
      by (inl (is, t)) =
          subst (λ (s : Status). IsDue s (length before.devices) words input) (sym is)
          (comes_due ended unread words input before after r.kept r.last r.came_to r.comes (λ f. free (subst IsFault (sym is) f)))
      by (inr (given, cut, front, is_front, t)) = absurd (free (cut_by result cut).0)

  -- each status that is due comes, or a fault
  pub exact : IsExact result (length before.devices) words input
  exact due is_due = by (is_fault result)
    where
      by : IsFault result ⊎ ¬ (IsFault result) → (result ≡ due) ⊎ IsFault result
      by (inl fault) = inr fault
      by (inr free) = inl (due_once (length before.devices) words input result due (own_due free) is_due)

  pub usage : ¬ (AreWords words) → IsOrUnwritten status.Usage result
  usage none = by (comes_words ended unread words input before after r.kept r.last r.came_to r.comes) r.written
    where
      by : (r.came_to ≡ status.Usage) ⊎ ((r.came_to ≡ status.NoMemory) ⊎ AreWords words) → IsCut → IsOrUnwritten status.Usage result
      by (inr (inr are)) w = absurd (none are)
      by (inr (inl is)) (inl (same, t)) = inr (inr (same ∙ is))
      by (inr (inl is)) (inr (given, cut, front, is_front, t)) = absurd (subst IsGiven is given)
      by (inl is) (inl (same, t)) = inl (same ∙ is)
      by (inl is) (inr (given, cut, front, is_front, t)) = inr (cut_by result cut).2

  pub left_aside : IsAside result → after ≡ before
  left_aside a = by r.written
    where
      by : IsCut → after ≡ before
      by (inl (is, t)) = comes_aside ended unread words input before after r.kept r.last r.came_to r.comes (subst IsAside is a)
      by (inr (given, cut, front, is_front, t)) = absurd ((cut_by result cut).1 a)

  pub failed_to_read : result ≡ status.ReadFault → unread
  failed_to_read is = by r.written
    where
      by : IsCut → unread
      by (inl (same, t)) =
          let comes = subst (λ (s : Status). Comes ended unread words input before after s r.kept r.last) (sym same ∙ is) r.comes in comes.1
      by (inr (given, cut, front, is_front, t)) = absurd (subst IsCutting is cut tt)

-- the same where there are so many devices
pub due_at : (places : ℕ) {before : Switches} → length before.devices ≡ places → (ended unread : Type 0) (words : List (List ℕ)) (input : List ℕ) (after : Switches) (result : Status) (text : List ℕ)
    → Results ended unread words input before after result text → ¬ (IsFault result) → IsDue result places words input
due_at places {before} n ended unread words input after result text r free =
    subst (λ (k : ℕ). IsDue result k words input) n (own_due ended unread words input before after result text r free)

pub exact_at : (places : ℕ) {before : Switches} → length before.devices ≡ places → (ended unread : Type 0) (words : List (List ℕ)) (input : List ℕ) (after : Switches) (result : Status) (text : List ℕ)
    → Results ended unread words input before after result text → IsExact result places words input
exact_at places {before} n ended unread words input after result text r =
    subst (λ (k : ℕ). IsExact result k words input) n (exact ended unread words input before after result text r)
