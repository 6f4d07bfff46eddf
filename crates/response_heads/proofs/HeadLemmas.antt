-- What the lines that were read so far gave.
use Rattle.std.proofs.Common.{◌≡◌, ◌+◌, ℕ, true, false, List, [], ◌∷◌, ◌++◌, length, Option, Some, None, refl}
use Rattle.std.proofs.Common.{sym, ap, subst, ◌∙◌, arith, append_assoc, append-nil, inl, inr}
use Rattle.std.specs.Prelude.{if◌then◌else◌}
use Rattle.std.proofs.lemmas.List.{length-append}
use Rattle.response_heads.specs.Heads.{AreFields, GivesFrom, GivesHeads, HeadText, IsOver, IsUnended}
use Rattle.response_heads.specs.Heads.{Stops, StopsBehind}
use Rattle.response_heads.specs.Lines.{FieldText, GivesField, begins_head, cut_end, status_of, whole_lines}
use Rattle.response_heads.specs.declared.error.StopFault.{StopFault}
use Rattle.response_heads.specs.declared.error.StopFault.TheVariants.{Status, Between, Unended}

-- ---- the fields of a head

-- the field lines so far, which gave these fields
pub record FieldsSoFar (old : List ℕ) (taken : ℕ) (rest : List ℕ) (now : ℕ) (fields : List FieldText) : Type 0 where
  pub read : List (List ℕ)
  pub are : AreFields read fields
  pub split : whole_lines old ≡ read ++ whole_lines rest
  pub cut : cut_end rest ≡ cut_end old
  pub counted : now ≡ taken + length read

fields_push : (read : List (List ℕ)) (fields : List FieldText) (line : List ℕ) (field : FieldText)
    → AreFields read fields → GivesField line field → AreFields (read ++ line ∷ []) (fields ++ field ∷ [])
fields_push [] [] line field h is = (is, tt)
fields_push [] (f ∷ fs) line field h is = absurd h
fields_push (l ∷ ls) [] line field h is = absurd h
fields_push (l ∷ ls) (f ∷ fs) line field h is = (h.0, fields_push ls fs line field h.1 is)

-- the next line is the first of those that are left
next_line : (all read : List (List ℕ)) (rest line : List ℕ) (after : List (List ℕ)) → all ≡ read ++ whole_lines rest
    → whole_lines rest ≡ line ∷ after → all ≡ read ++ line ∷ after
next_line all read rest line after split next = split ∙ ap (λ ls. read ++ ls) next

pub fields_more : (old : List ℕ) (taken : ℕ) (rest : List ℕ) (now : ℕ) (fields : List FieldText)
    (line more : List ℕ) (m : ℕ) (field : FieldText) → FieldsSoFar old taken rest now fields
    → whole_lines rest ≡ line ∷ whole_lines more → cut_end more ≡ cut_end rest → m ≡ now + 1 → GivesField line field
    → FieldsSoFar old taken more m (fields ++ field ∷ [])
fields_more old taken rest now fields line more m field far next cut counted is = record {
  read = far.read ++ line ∷ [];
  are = fields_push far.read fields line field far.are is;
  split = next_line (whole_lines old) far.read rest line (whole_lines more) far.split next
      ∙ sym (append_assoc far.read (line ∷ []) (whole_lines more));
  cut = cut ∙ far.cut;
  counted = omega (arith, counted, far.counted, length-append far.read (line ∷ []));
}

-- ---- behind the heads

-- one more line is passed over
stops_passed : (before : ℕ) (line : List ℕ) (lines : List (List ℕ)) (cut : List ℕ) (stop : Option (ℕ × StopFault))
    → begins_head line ≡ false → StopsBehind (before + 1) lines cut stop → StopsBehind before (line ∷ lines) cut stop
stops_passed before line lines cut stop passed far = record {
  front = line ∷ far.front;
  behind = far.behind;
  split = ap (λ ls. line ∷ ls) far.split;
  passed = (passed, far.passed);
  stops = subst (λ n. Stops n far.behind cut Between stop) (omega arith) far.stops;
}

-- What stands behind the lines that are left is what stands behind all.
pub record StopsSoFar (before : ℕ) (old rest : List ℕ) (taken : ℕ) : Type 0 where
  pub cut : cut_end rest ≡ cut_end old
  pub gives : (stop : Option (ℕ × StopFault)) → StopsBehind taken (whole_lines rest) (cut_end old) stop
      → StopsBehind before (whole_lines old) (cut_end old) stop

-- the next line and what is left behind it
stops_next : (before : ℕ) (old rest : List ℕ) (taken : ℕ) (line more : List ℕ) (stop : Option (ℕ × StopFault))
    → StopsSoFar before old rest taken → whole_lines rest ≡ line ∷ whole_lines more
    → StopsBehind taken (line ∷ whole_lines more) (cut_end old) stop
    → StopsBehind before (whole_lines old) (cut_end old) stop
stops_next before old rest taken line more stop far next given =
    far.gives stop (subst (λ ls. StopsBehind taken ls (cut_end old) stop) (sym next) given)

pub stops_more : (before : ℕ) (old rest : List ℕ) (taken : ℕ) (line more : List ℕ) (m : ℕ)
    → StopsSoFar before old rest taken → whole_lines rest ≡ line ∷ whole_lines more → cut_end more ≡ cut_end rest
    → m ≡ taken + 1 → begins_head line ≡ false → StopsSoFar before old more m
stops_more before old rest taken line more m far next cut counted passed = record {
  cut = cut ∙ far.cut;
  gives = λ stop given. stops_next before old rest taken line more stop far next
      (stops_passed taken line (whole_lines more) (cut_end old) stop passed
      (subst (λ n. StopsBehind n (whole_lines more) (cut_end old) stop) counted given));
}

pub stops_here : (before : ℕ) (old rest : List ℕ) (taken : ℕ) (line more : List ℕ) (m : ℕ)
    → StopsSoFar before old rest taken → whole_lines rest ≡ line ∷ whole_lines more → m ≡ taken + 1
    → begins_head line ≡ true → StopsBehind before (whole_lines old) (cut_end old) (Some (m, Between))
stops_here before old rest taken line more m far next counted begins =
    let at : m ≡ taken + length {A = List ℕ} [] + 1 = omega (arith, counted) in
    stops_next before old rest taken line more (Some (m, Between)) far next (record {
      front = [];
      behind = line ∷ whole_lines more;
      split = refl;
      passed = tt;
      stops = (begins, ap (λ n. Some (n, Between)) at);
    })

pub stops_nowhere : (before : ℕ) (old rest : List ℕ) (taken : ℕ) (stop : Option (ℕ × StopFault))
    → StopsSoFar before old rest taken → whole_lines rest ≡ [] → cut_end rest ≡ rest
    → stop ≡ (if begins_head rest then Some (taken + 1, Between) else None)
    → StopsBehind before (whole_lines old) (cut_end old) stop
stops_nowhere before old rest taken stop far none cut is =
    let same : rest ≡ cut_end old = sym cut ∙ far.cut in
    let at : taken + 1 ≡ taken + length {A = List ℕ} [] + 1 = omega arith in
    far.gives stop (subst (λ ls. StopsBehind taken ls (cut_end old) stop) (sym none) (record {
      front = [];
      behind = [];
      split = refl;
      passed = tt;
      stops = is ∙ (ap (λ end. if begins_head end then Some (taken + 1, Between) else None) same
          ∙ ap (λ n. if begins_head (cut_end old) then Some (n, Between) else None) at);
    }))

-- ---- the heads

-- What the lines that are left give is what all give behind the heads so far.
pub record HeadsSoFar (text rest : List ℕ) (taken : ℕ) (heads : List HeadText) : Type 0 where
  pub cut : cut_end rest ≡ cut_end text
  pub gives : (more : List HeadText) (stop : Option (ℕ × StopFault))
      → GivesFrom taken (whole_lines rest) (cut_end text) more stop → GivesHeads text (heads ++ more) stop

-- no head comes next
heads_over : (text rest : List ℕ) (taken : ℕ) (heads : List HeadText) (stop : Option (ℕ × StopFault))
    → HeadsSoFar text rest taken heads → IsOver taken (whole_lines rest) (cut_end text) stop
    → GivesHeads text heads stop
heads_over text rest taken heads stop far over =
    subst (λ all. GivesHeads text all stop) (append-nil heads) (far.gives [] stop over)

-- the next line begins none
over_next : (text rest : List ℕ) (taken : ℕ) (heads : List HeadText) (line more : List ℕ)
    (stop : Option (ℕ × StopFault)) → HeadsSoFar text rest taken heads → whole_lines rest ≡ line ∷ whole_lines more
    → IsOver taken (line ∷ whole_lines more) (cut_end text) stop → GivesHeads text heads stop
over_next text rest taken heads line more stop far next over =
    heads_over text rest taken heads stop far
    (subst (λ ls. IsOver taken ls (cut_end text) stop) (sym next) over)

pub heads_behind : (text rest : List ℕ) (taken : ℕ) (heads : List HeadText) (line more : List ℕ) (m : ℕ)
    (stop : Option (ℕ × StopFault)) → HeadsSoFar text rest taken heads → whole_lines rest ≡ line ∷ whole_lines more
    → cut_end more ≡ cut_end rest → m ≡ taken + 1 → begins_head line ≡ false
    → StopsBehind m (whole_lines more) (cut_end more) stop → GivesHeads text heads stop
heads_behind text rest taken heads line more m stop far next cut counted passed stops =
    over_next text rest taken heads line more stop far next (inl (
      passed,
      subst (λ n. StopsBehind n (whole_lines more) (cut_end text) stop) counted
          (subst (λ end. StopsBehind m (whole_lines more) end stop) (cut ∙ far.cut) stops),
    ))

pub heads_odd : (text rest : List ℕ) (taken : ℕ) (heads : List HeadText) (line more : List ℕ) (m : ℕ)
    → HeadsSoFar text rest taken heads → whole_lines rest ≡ line ∷ whole_lines more → m ≡ taken + 1
    → begins_head line ≡ true → status_of line ≡ None → GivesHeads text heads (Some (m, Status))
heads_odd text rest taken heads line more m far next counted begins none =
    over_next text rest taken heads line more (Some (m, Status)) far next
    (inr (begins, inl (none, ap (λ n. Some (n, Status)) counted)))

pub heads_unended : (text rest : List ℕ) (taken : ℕ) (heads : List HeadText) (line more : List ℕ) (m status : ℕ)
    → HeadsSoFar text rest taken heads → whole_lines rest ≡ line ∷ whole_lines more → m ≡ taken + 1
    → begins_head line ≡ true → status_of line ≡ Some status → IsUnended (whole_lines more)
    → GivesHeads text heads (Some (m, Unended))
heads_unended text rest taken heads line more m status far next counted begins some unended =
    over_next text rest taken heads line more (Some (m, Unended)) far next
    (inr (begins, inr (λ none. none_is_some status (sym none ∙ some), unended, ap (λ n. Some (n, Unended)) counted)))
  where
    none_is_some : (n : ℕ) → None ≡ Some n → ⊥
    none_is_some n e = cc

pub heads_none : (text rest : List ℕ) (taken : ℕ) (heads : List HeadText) (stop : Option (ℕ × StopFault))
    → HeadsSoFar text rest taken heads → whole_lines rest ≡ [] → cut_end rest ≡ rest
    → stop ≡ (if begins_head rest then Some (taken + 1, Status) else None) → GivesHeads text heads stop
heads_none text rest taken heads stop far none cut is =
    heads_over text rest taken heads stop far
    (subst (λ ls. IsOver taken ls (cut_end text) stop) (sym none)
    (is ∙ ap (λ end. if begins_head end then Some (taken + 1, Status) else None) (sym cut ∙ far.cut)))
