-- From what the parts of the top call did to the causes that its promise gives.
use Rattle.std.proofs.Common.{◌≡◌, refl, sym, ap, ◌∙◌, subst, inl, inr, ℕ, lit≤, List, [], ◌∷◌, length, true, false, arith}
use Rattle.std.specs.Prelude.{◌⊎◌, Option, Some, None, Bool, if◌then◌else◌}
use Rattle.std.proofs.lemmas.List.{take_all, append-nil}
use Rattle.meaning.specs.Counts.{appended}
use Rattle.meaning.specs.Statuses as meaning
use Rattle.meaning.specs.Statuses.{status_line}
use Rattle.meaning.specs.Words.{Task, Invocation, File, files_of, uses_diagrams}
use Rattle.meaning.specs.Answers.{Answer, Prints}
use Rattle.meaning.specs.TopCall.{Outside, Says, IfTold, AgreeWith, Answered, Cause, OutKept, LinesOf, Promise, OpenedFor, LimitMet, Leaves, open_under, open_after, Diagrams}
use Rattle.workbench.specs.declared.status.Status.{Status}
use Rattle.workbench.specs.declared.status.Status.TheVariants as status
use Rattle.workbench.specs.StatusView.{status_view}
use Rattle.workbench.specs.BuildingStage.{building_cases}
use Rattle.workbench.specs.Limits.{IfOpen, LeftAs, OpenedForTask}
use Rattle.workbench.specs.Run.{shelf_of, AnswersTask, StopsTask, Stops, Printed}

-- ---- what is said

pub said_whole : (old new : Option (List ℕ)) (faults faults_new : ℕ) (bytes : List ℕ) → new ≡ appended old bytes → Says old new faults faults_new bytes
said_whole old new faults faults_new bytes e = record {
  count = length bytes;
  grew = e ∙ ap (appended old) (sym (take_all (length bytes) bytes (omega arith)));
  whole = inl (omega arith);
}

nothing_more : (old : Option (List ℕ)) → old ≡ appended old []
nothing_more None = refl
nothing_more (Some bytes) = ap Some (sym (append-nil bytes))

pub nothing_said : (old : Option (List ℕ)) (faults : ℕ) → Says old old faults faults (status_line meaning.Done)
unfolding status_line
nothing_said old faults = record { count = 0; grew = nothing_more old; whole = inl (lit≤ tt) }

-- ---- the task that the words are

module _ (words : List (List ℕ)) (before after : Outside) (task : Task) (limit : ℕ)
    (old new : Diagrams) (reads : building_cases.reads words ≡ Some (record { task = task; node_limit = limit })) where
  pub words_answered : (answer : Answer) → AnswersTask task before answer → Answered building_cases words before answer
  words_answered answer a = record {
    invocation = record { task = task; node_limit = limit };
    reads = reads;
    files = a.files;
    agree = a.agree;
    is = a.is;
  }

  words_opened : OpenedForTask task before limit new → OpenedFor building_cases words before new
  words_opened h = record {
    invocation = record { task = task; node_limit = limit };
    reads = reads;
    files = h.files;
    agree = h.agree;
    opens = h.opened.opens;
    limit = h.opened.with_limit;
  }

  pub words_leave : (s : meaning.Status) → IfOpen new (OpenedForTask task before limit new)
      → LeftAs (open_after (Some (record { task = task; node_limit = limit })) s) new → Leaves building_cases words before new s
  words_leave s opened left = record {
    as_told = λ b e. left b (sym (ap (λ i. open_after i s) reads) ∙ e);
    opened = λ there. words_opened (opened there);
  }

  module _ (opened : IfOpen new (OpenedForTask task before limit new)) where
    pub words_stop : (s : Status) → StopsTask task before after old new s → Stops words before after old new s
    words_stop status.Done h = absurd h
    words_stop status.BadWords h = absurd h
    words_stop (status.BadBundle fault) h = record { answer = words_answered _ h }
    words_stop (status.BadConfig rule at) h = record { answer = words_answered _ h }
    words_stop status.NotValid h = record { answer = words_answered _ h }
    words_stop (status.BadCase fault) h = record { answer = words_answered _ h }
    words_stop (status.NodeLimit used) h = record {
      opened = words_opened (opened h.is_open);
      is_open = h.is_open;
      used_all = h.used_all;
      cause = h.cause;
      few = h.few;
    }
    words_stop (status.BigCase entries) h = record { answer = words_answered _ h }
    words_stop (status.TooLong file) h = record {
      invocation = record { task = task; node_limit = limit };
      reads = reads;
      file = h.file;
      is_file = h.is_file;
      earlier = h.earlier;
      place = h.place;
      taken = h.taken;
      longer = h.longer;
    }
    words_stop (status.ReadFault file) h = record {
      invocation = record { task = task; node_limit = limit };
      reads = reads;
      file = h.file;
      is_file = h.is_file;
      earlier = h.earlier;
      cause = h.cause;
    }
    words_stop status.WriteFault h = absurd h
    words_stop status.NoMemory h = tt
    words_stop status.Unsupported h = record { answer = words_answered _ h }

-- shut diagrams are left so under words that have no reading
pub unread_leave : (words : List (List ℕ)) (before : Outside) (new : Diagrams) (s : meaning.Status) → building_cases.reads words ≡ None → new.is_open ≡ false
    → Leaves building_cases words before new s
unread_leave words before new s none shut = record {
  as_told = λ b e. shut ∙ is_false b (sym (ap (λ i. open_after i s) none) ∙ e);
  opened = λ there. absurd (let n : false ≡ true = sym shut ∙ there in cc);
}
  where
    is_false : (b : Bool) → Some false ≡ Some b → false ≡ b
    is_false b e = cc

-- ---- the outside around the shelf

-- what is told of the files is all that an answer rests on
agree_with : (o p : Outside) → o.holds ≡ p.holds → (fs : List File) (files : List (List ℕ)) → AgreeWith o fs files → AgreeWith p fs files
agree_with o p e [] [] a = tt
agree_with o p e [] (s ∷ ss) a = absurd a
agree_with o p e (f ∷ fs) [] a = absurd a
agree_with o p e (f ∷ fs) (s ∷ ss) a = (subst (λ h. IfTold (h f.name) s) e a.0, (a.1.0, agree_with o p e fs ss a.1.1))

module _ (words : List (List ℕ)) (before after : Outside) (old new : Diagrams) where
  shelf : Outside
  shelf = shelf_of before.holds before.faults before.next before.given

  shelf_after : Outside
  shelf_after = shelf_of after.holds after.faults after.next after.given

  pub answered_outside : (answer : Answer) → Answered building_cases words (shelf_of before.holds before.faults before.next before.given) answer
      → Answered building_cases words before answer
  answered_outside answer a = record {
    invocation = a.invocation;
    reads = a.reads;
    files = a.files;
    agree = agree_with (shelf_of before.holds before.faults before.next before.given) before refl (files_of a.invocation.task) a.files a.agree;
    is = a.is;
  }

  opened_outside : OpenedFor building_cases words (shelf_of before.holds before.faults before.next before.given) new → OpenedFor building_cases words before new
  opened_outside h = record {
    invocation = h.invocation;
    reads = h.reads;
    files = h.files;
    agree = agree_with (shelf_of before.holds before.faults before.next before.given) before refl (files_of h.invocation.task) h.files h.agree;
    opens = h.opens;
    limit = h.limit;
  }

  leaves_outside : (s : meaning.Status) → Leaves building_cases words (shelf_of before.holds before.faults before.next before.given) new s → Leaves building_cases words before new s
  leaves_outside s h = record { as_told = h.as_told; opened = λ there. opened_outside (h.opened there) }

  cause_outside : (s : Status) → Stops words (shelf_of before.holds before.faults before.next before.given) (shelf_of after.holds after.faults after.next after.given) old new s
      → Cause building_cases words before after (LimitMet building_cases words before old new) (status_line (status_view s)) (status_view s)
  cause_outside status.Done h = absurd h
  cause_outside status.BadWords h = h
  cause_outside (status.BadBundle fault) h = record { answer = answered_outside _ h.answer }
  cause_outside (status.BadConfig rule at) h = record { answer = answered_outside _ h.answer }
  cause_outside status.NotValid h = record { answer = answered_outside _ h.answer }
  cause_outside (status.BadCase fault) h = record { answer = answered_outside _ h.answer }
  cause_outside (status.NodeLimit used) h = record {
    opened = opened_outside h.opened;
    is_open = h.is_open;
    used_all = h.used_all;
    cause = h.cause;
    few = h.few;
  }
  cause_outside (status.BigCase entries) h = record { answer = answered_outside _ h.answer }
  cause_outside (status.TooLong file) h = record {
    invocation = h.invocation;
    reads = h.reads;
    file = h.file;
    is_file = h.is_file;
    earlier = h.earlier;
    place = h.place;
    taken = h.taken;
    longer = h.longer;
  }
  cause_outside (status.ReadFault file) h = record {
    invocation = h.invocation;
    reads = h.reads;
    file = h.file;
    is_file = h.is_file;
    earlier = h.earlier;
    cause = h.cause;
  }
  cause_outside status.WriteFault h = absurd h
  cause_outside status.NoMemory h = tt
  cause_outside status.Unsupported h = record { answer = answered_outside _ h.answer }

  out_kept : (s : Status) → Stops words (shelf_of before.holds before.faults before.next before.given) (shelf_of after.holds after.faults after.next after.given) old new s
      → after.out ≡ before.out → OutKept before after (status_view s)
  out_kept status.Done h e = tt
  out_kept status.BadWords h e = e
  out_kept (status.BadBundle fault) h e = e
  out_kept (status.BadConfig rule at) h e = e
  out_kept status.NotValid h e = e
  out_kept (status.BadCase fault) h e = e
  out_kept (status.NodeLimit used) h e = e
  out_kept (status.BigCase entries) h e = e
  out_kept (status.TooLong file) h e = e
  out_kept (status.ReadFault file) h e = e
  out_kept status.WriteFault h e = tt
  out_kept status.NoMemory h e = e
  out_kept status.Unsupported h e = e

  lines_of : (s : Status) → LinesOf (status_view s) (status_line (status_view s))
  lines_of status.Done = refl
  lines_of status.BadWords = refl
  lines_of (status.BadBundle fault) = refl
  lines_of (status.BadConfig rule at) = refl
  lines_of status.NotValid = refl
  lines_of (status.BadCase fault) = refl
  lines_of (status.NodeLimit used) = refl
  lines_of (status.BigCase entries) = refl
  lines_of (status.TooLong file) = refl
  lines_of (status.ReadFault file) = refl
  lines_of status.WriteFault = refl
  lines_of status.NoMemory = refl
  lines_of status.Unsupported = refl

  pub stopped_promise : (s : Status) → Stops words (shelf_of before.holds before.faults before.next before.given) (shelf_of after.holds after.faults after.next after.given) old new s
      → after.out ≡ before.out → Says before.err after.err before.err_faults after.err_faults (status_line (status_view s))
      → Promise building_cases words before after (LimitMet building_cases words before old new) (status_view s)
  stopped_promise s h e said = record {
    lines = status_line (status_view s);
    cause = cause_outside s h;
    out = out_kept s h e;
    said = lines_of s;
    err = said;
  }

  -- the status, or want of memory in its place
  pub refused_promise : (s r : Status) → Stops words (shelf_of before.holds before.faults before.next before.given) (shelf_of after.holds after.faults after.next after.given) old new s
      → (r ≡ s) ⊎ (r ≡ status.NoMemory) → after.out ≡ before.out → Says before.err after.err before.err_faults after.err_faults (status_line (status_view r))
      → Promise building_cases words before after (LimitMet building_cases words before old new) (status_view r)
  refused_promise s r h (inl same) e said =
      stopped_promise r (subst (λ x. Stops words (shelf_of before.holds before.faults before.next before.given) (shelf_of after.holds after.faults after.next after.given) old new x) (sym same) h) e said
  refused_promise s r h (inr none) e said =
      stopped_promise r (subst (λ x. Stops words (shelf_of before.holds before.faults before.next before.given) (shelf_of after.holds after.faults after.next after.given) old new x) (sym none) tt) e said

  pub printed_promise : (s : Status) (bytes : List ℕ) → Answered building_cases words (shelf_of before.holds before.faults before.next before.given) (Prints bytes)
      → Printed s before.out after.out before.out_faults after.out_faults bytes
      → Says before.err after.err before.err_faults after.err_faults (status_line (status_view s))
      → Promise building_cases words before after (LimitMet building_cases words before old new) (status_view s)
  printed_promise status.Done bytes a p said = record {
    lines = status_line meaning.Done;
    cause = record { bytes = bytes; answer = answered_outside (Prints bytes) a; printed = p };
    out = tt;
    said = refl;
    err = said;
  }
  printed_promise status.WriteFault bytes a p said = record {
    lines = status_line meaning.WriteFault;
    cause = record { bytes = bytes; answer = answered_outside (Prints bytes) a; count = p.0; printed = p.1; cause = p.2 };
    out = tt;
    said = refl;
    err = said;
  }
  printed_promise status.BadWords bytes a p said = absurd p
  printed_promise (status.BadBundle fault) bytes a p said = absurd p
  printed_promise (status.BadConfig rule at) bytes a p said = absurd p
  printed_promise status.NotValid bytes a p said = absurd p
  printed_promise (status.BadCase fault) bytes a p said = absurd p
  printed_promise (status.NodeLimit used) bytes a p said = absurd p
  printed_promise (status.BigCase entries) bytes a p said = absurd p
  printed_promise (status.TooLong file) bytes a p said = absurd p
  printed_promise (status.ReadFault file) bytes a p said = absurd p
  printed_promise status.NoMemory bytes a p said = absurd p
  printed_promise status.Unsupported bytes a p said = absurd p

  -- want of memory leaves no more to tell
  without_memory : (o : Option Invocation) (s : meaning.Status) (b : Bool) → open_after o meaning.NoMemory ≡ Some b → open_after o s ≡ Some b
  without_memory None s b e = e
  without_memory (Some i) s b e = go (uses_diagrams i.task) e
    where
      go : (uses : Bool) → (if uses then open_under meaning.NoMemory else Some false) ≡ Some b → (if uses then open_under s else Some false) ≡ Some b
      go true e = absurd (let n : None ≡ Some b = e in cc)
      go false e = e

  pub refused_leave : (s r : Status) → Leaves building_cases words (shelf_of before.holds before.faults before.next before.given) new (status_view s)
      → (r ≡ s) ⊎ (r ≡ status.NoMemory) → Leaves building_cases words before new (status_view r)
  refused_leave s r h (inl same) = leaves_outside (status_view r) (subst (λ x. Leaves building_cases words (shelf_of before.holds before.faults before.next before.given) new (status_view x)) (sym same) h)
  refused_leave s r h (inr none) =
      subst (λ x. Leaves building_cases words before new (status_view x)) (sym none)
      (record { as_told = λ b e. h.as_told b (without_memory (building_cases.reads words) (status_view s) b e); opened = λ there. opened_outside (h.opened there) })

  pub printed_leave : (s : Status) (bytes : List ℕ) → Leaves building_cases words (shelf_of before.holds before.faults before.next before.given) new meaning.Done
      → Printed s before.out after.out before.out_faults after.out_faults bytes → Leaves building_cases words before new (status_view s)
  printed_leave status.Done bytes h p = leaves_outside meaning.Done h
  printed_leave status.WriteFault bytes h p =
      leaves_outside meaning.WriteFault (record { as_told = λ b e. h.as_told b (not_written (building_cases.reads words) b e); opened = h.opened })
    where
      not_written : (o : Option Invocation) (b : Bool) → open_after o meaning.WriteFault ≡ Some b → open_after o meaning.Done ≡ Some b
      not_written None b e = e
      not_written (Some i) b e = e
  printed_leave status.BadWords bytes h p = absurd p
  printed_leave (status.BadBundle fault) bytes h p = absurd p
  printed_leave (status.BadConfig rule at) bytes h p = absurd p
  printed_leave status.NotValid bytes h p = absurd p
  printed_leave (status.BadCase fault) bytes h p = absurd p
  printed_leave (status.NodeLimit used) bytes h p = absurd p
  printed_leave (status.BigCase entries) bytes h p = absurd p
  printed_leave (status.TooLong file) bytes h p = absurd p
  printed_leave (status.ReadFault file) bytes h p = absurd p
  printed_leave status.NoMemory bytes h p = absurd p
  printed_leave status.Unsupported bytes h p = absurd p
