-- What a witness of a pass shows once it is compared with all that was sent.
-- For `Shared::hold`, `Tally::take`.
use Rattle.std.proofs.Common.{◌≡◌, ℕ, List, [], ◌∷◌, ◌++◌, refl, sym, ap}
use Rattle.std.proofs.Common.{◌∙◌, subst, append_assoc}
use Rattle.std.proofs.lemmas.List.Elements.{All-push}
use Rattle.cm_group.specs.Groups.{Carried}
use Rattle.cm_state.specs.Step.{Change}
use Rattle.cm_cache.specs.declared.channel.Base.{Base}
use Rattle.cm_cache.specs.declared.channel.Message.{Message}
use Rattle.cm_cache.specs.declared.channel.Message.TheVariants.{Group, End}
use Rattle.cm_cache.specs.Channel.{entries_of}
use Rattle.cm_cache.specs.Handing.{HandsOver, IsHanded, AreHanded}
use Rattle.cm_cache.specs.Shared.{numbers_of}
use Rattle.cm_cache.proofs.Tied.{entries-append}

pub entries_join : (a b : List Message) → entries_of (a ++ b) ≡ entries_of a ++ entries_of b
entries_join [] b = refl
entries_join (Group g ∷ a) b =
    ap (λ l. g.entries ++ l) (entries_join a b)
    ∙ sym (append_assoc g.entries (entries_of a) (entries_of b))
entries_join (End ∷ a) b = entries_join a b

-- a command was just handed over
handed_now : (base : Base) (before sent : List Message) (change : Change (List ℕ)) (n : ℕ)
    → HandsOver base before change n sent → IsHanded base (entries_of sent) change n
handed_now base before sent change n h = record {
  before = entries_of before;
  entry = h.entry;
  rest = [];
  all_are =
      ap entries_of h.new_is
      ∙ entries-append before h.group
      ∙ ap (λ l. entries_of before ++ l) h.one;
  change_is = h.change_is;
  number_is = h.number_is;
}

-- and stays so as more is sent
handed_still : (base : Base) (all rest : List Carried) (change : Change (List ℕ)) (n : ℕ)
    → IsHanded base all change n → IsHanded base (all ++ rest) change n
handed_still base all rest change n h = record {
  before = h.before;
  entry = h.entry;
  rest = h.rest ++ rest;
  all_are = ap (λ l. l ++ rest) h.all_are ∙ append_assoc h.before (h.entry ∷ h.rest) rest;
  change_is = h.change_is;
  number_is = h.number_is;
}

pub all_shown : (base : Base) (shown sent : List Message) (changes : List (Change (List ℕ) × ℕ))
    → AreHanded base (entries_of shown) changes → (rest : List Message) × (sent ≡ shown ++ rest)
    → AreHanded base (entries_of sent) changes
all_shown base shown sent changes are known =
    subst (λ l. AreHanded base l changes)
    (sym (ap entries_of known.1 ∙ entries_join shown known.0))
    (λ k d below. handed_still base (entries_of shown) (entries_of known.0) _ _ (are k d below))

pub numbers_of_more : (changes : List (Change (List ℕ) × ℕ)) (change : Change (List ℕ)) (n : ℕ)
    → numbers_of (changes ++ (change, n) ∷ []) ≡ numbers_of changes ++ n ∷ []
numbers_of_more [] change n = refl
numbers_of_more (c ∷ changes) change n = ap (λ l. c.1 ∷ l) (numbers_of_more changes change n)

-- with the one that was sent just now
pub one_more_shown : (base : Base) (shown before sent : List Message)
    (changes now : List (Change (List ℕ) × ℕ)) (change : Change (List ℕ)) (n : ℕ)
    → AreHanded base (entries_of shown) changes → (rest : List Message) × (sent ≡ shown ++ rest)
    → HandsOver base before change n sent → now ≡ changes ++ (change, n) ∷ []
    → AreHanded base (entries_of sent) now
one_more_shown base shown before sent changes now change n are known handed is =
    subst (AreHanded base (entries_of sent)) (sym is)
    (All-push (λ (c : Change (List ℕ) × ℕ). IsHanded base (entries_of sent) c.0 c.1) changes
    (change, n) (all_shown base shown sent changes are known)
    (handed_now base before sent change n handed))
