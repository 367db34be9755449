-- Why the files of a task were not all read, from why one of them was not.
use Rattle.std.proofs.Common.{◌≡◌, refl, sym, ap, subst, ℕ, zero, suc, ◌≤◌, ◌<◌, List, [], ◌∷◌, length, inl, inr, arith}
use Rattle.std.specs.Prelude.{◌⊎◌, ◌+◌, Some, unwrap_or}
use Rattle.std.specs.List.{slice_get}
use Rattle.meaning.specs.Counts.{Rose, RoseBy, NoFewer, greatest_count}
use Rattle.meaning.specs.Words.{File}
use Rattle.meaning.specs.TopCall.{Outside, IsWithin}
use Rattle.workbench.specs.declared.status.Status.{Status}
use Rattle.workbench.specs.declared.status.Status.TheVariants as status
use Rattle.workbench.specs.Run.{IsFileOf, StopsFile, StopsFiles}

-- ---- counts that did not fall before

rose_before : (a b c : ℕ) → a ≤ b → Rose b c → Rose a c
rose_before a b c l r = record { is = go r.is }
  where
    go : (b < c) ⊎ (c ≡ greatest_count) → (a < c) ⊎ (c ≡ greatest_count)
    go (inl h) = inl (omega (arith, l, h))
    go (inr h) = inr h

rose_by_before : (a b c n : ℕ) → a ≤ b → RoseBy b c n → RoseBy a c n
rose_by_before a b c n l r = record { is = go r.is }
  where
    go : (b + n ≤ c) ⊎ (c ≡ greatest_count) → (a + n ≤ c) ⊎ (c ≡ greatest_count)
    go (inl h) = inl (omega (arith, l, h))
    go (inr h) = inr h

-- ---- the first file

none_before : (k : ℕ) → k ≡ 0 → (j : ℕ) → j < k → ⊥
none_before k e j l = omega (arith, e, l)

module _ (f : File) (fs : List File) where
  is_first : (k : ℕ) → k ≡ 0 → slice_get (f ∷ fs) k ≡ Some f
  is_first k e = rw e refl

  pub first_stops : (before after : Outside) (s : Status) → StopsFile 0 f before after s → StopsFiles (f ∷ fs) before after s
  first_stops before after status.Done h = absurd h
  first_stops before after status.BadWords h = absurd h
  first_stops before after (status.BadBundle fault) h = absurd h
  first_stops before after (status.BadConfig rule at) h = absurd h
  first_stops before after status.NotValid h = absurd h
  first_stops before after (status.BadCase fault) h = absurd h
  first_stops before after (status.NodeLimit used) h = absurd h
  first_stops before after (status.BigCase entries) h = absurd h
  first_stops before after (status.TooLong k) h = record {
    file = f;
    is_file = is_first k h.0;
    earlier = λ j g l e. absurd (none_before k h.0 j l);
    place = h.1.place;
    taken = h.1.taken;
    longer = h.1.longer;
  }
  first_stops before after (status.ReadFault k) h = record {
    file = f;
    is_file = is_first k h.0;
    earlier = λ j g l e. absurd (none_before k h.0 j l);
    cause = h.1;
  }
  first_stops before after status.WriteFault h = absurd h
  first_stops before after status.NoMemory h = tt
  first_stops before after status.Unsupported h = absurd h

-- ---- the second, after the first was read

module _ (f g : File) (before middle : Outside) (bytes : List ℕ) (read : IsFileOf (before.holds f.name) f.most bytes)
    (same : middle.holds ≡ before.holds) (faults : NoFewer before.faults middle.faults) (given : NoFewer before.given middle.given) where
  is_second : (k : ℕ) → k ≡ 1 → slice_get (f ∷ g ∷ []) k ≡ Some g
  is_second k e = rw e refl

  first_within : IsWithin before f
  first_within those e = subst (λ b. length b ≤ f.most) (sym (read.agree those e)) read.short

  within : (k : ℕ) → k ≡ 1 → (j : ℕ) (h : File) → j < k → slice_get (f ∷ g ∷ []) j ≡ Some h → IsWithin before h
  within k one zero h l e = subst (λ x. IsWithin before x) (ap (λ o. unwrap_or o h) e) first_within
  within k one (suc j) h l e = absurd (omega (arith, one, l))

  pub second_stops : (after : Outside) (s : Status) → StopsFile 1 g middle after s → StopsFiles (f ∷ g ∷ []) before after s
  second_stops after status.Done h = absurd h
  second_stops after status.BadWords h = absurd h
  second_stops after (status.BadBundle fault) h = absurd h
  second_stops after (status.BadConfig rule at) h = absurd h
  second_stops after status.NotValid h = absurd h
  second_stops after (status.BadCase fault) h = absurd h
  second_stops after (status.NodeLimit used) h = absurd h
  second_stops after (status.BigCase entries) h = absurd h
  second_stops after (status.TooLong k) h = record {
    file = g;
    is_file = is_second k h.0;
    earlier = within k h.0;
    place = h.1.place;
    taken = rose_by_before (before.given g.name) (middle.given g.name) (after.given g.name) (g.most + 1) (given.at g.name) h.1.taken;
    longer = λ b e. h.1.longer b (subst (λ x. x g.name ≡ Some b) (sym same) e);
  }
  second_stops after (status.ReadFault k) h = record {
    file = g;
    is_file = is_second k h.0;
    earlier = within k h.0;
    cause = rose_before (before.faults g.name) (middle.faults g.name) (after.faults g.name) (faults.at g.name) h.1;
  }
  second_stops after status.WriteFault h = absurd h
  second_stops after status.NoMemory h = tt
  second_stops after status.Unsupported h = absurd h
