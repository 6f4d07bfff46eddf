-- Visits, one after another.
use Rattle.std.proofs.Common.{◌≡◌, ℕ, Bool, false, true, List, [], ◌∷◌, ◌++◌, map, Some, None, Result, Ok, Err, Option}
use Rattle.std.proofs.Common.{arith, length, sym, ap, subst, ◌∙◌, append_assoc, append-nil, refl}
use Rattle.std.proofs.lemmas.List.{map-append}
use Rattle.url.specs.Parts.{Parts}
use Rattle.response_heads.specs.Heads.{HeadText}
use Rattle.response_heads.specs.Read.{is_success}
use Rattle.response_heads.specs.Visits.{LeadsTo, VisitText, Walks, last_visits, visit_of, visit_text}
use Rattle.response_heads.specs.declared.error.StopFault.{StopFault}
use Rattle.response_heads.specs.declared.redirects.Lost.{Lost}
use Rattle.response_heads.specs.declared.redirects.Visit.{Visit}

-- What the heads that are left give is what all give behind the visits so far.
abbrev pub WalksOn : Parts → List HeadText → Option (ℕ × StopFault) → Result Parts Lost → Bool → List HeadText
    → List VisitText → Type 0
WalksOn url heads stop here is_behind_success left visits =
    (rest : List VisitText) (lost : Option Lost) → Walks here is_behind_success left stop rest lost
    → Walks (Ok url) false heads stop (visits ++ rest) lost

pub begins : (url : Parts) (heads : List HeadText) (stop : Option (ℕ × StopFault))
    → WalksOn url heads stop (Ok url) false heads []
begins url heads stop = λ rest lost walks. walks

pub goes_on : (url : Parts) (heads : List HeadText) (stop : Option (ℕ × StopFault)) (here : Parts)
    (is_behind_success : Bool) (head : HeadText) (left : List HeadText) (next : Result Parts Lost) (visits : List Visit)
    (visit : Visit) (pushed : List Visit)
    → WalksOn url heads stop (Ok here) is_behind_success (head ∷ left) (map visit_text visits)
    → LeadsTo here head next → visit_text visit ≡ visit_of here is_behind_success head left stop
    → pushed ≡ visits ++ visit ∷ []
    → WalksOn url heads stop next (is_success head.status) left (map visit_text pushed)
goes_on url heads stop here is_behind_success head left next visits visit pushed far leads is new = λ rest lost walks.
    let made = visit_of here is_behind_success head left stop in
    let texts : map visit_text pushed ++ rest ≡ map visit_text visits ++ made ∷ rest =
    ap (λ vs. map visit_text vs ++ rest) new ∙ (ap (λ vs. vs ++ rest) (map-append visit_text visits (visit ∷ []))
    ∙ (append_assoc (map visit_text visits) (visit_text visit ∷ []) rest
    ∙ ap (λ v. map visit_text visits ++ v ∷ rest) is)) in
    subst (λ vs. Walks (Ok url) false heads stop vs lost) (sym texts)
    (far (made ∷ rest) lost (next, rest, leads, walks, refl))

-- no head is left, or none knows where the next one was answered
pub ends : (url : Parts) (heads : List HeadText) (stop : Option (ℕ × StopFault)) (here : Result Parts Lost)
    (is_behind_success : Bool) (visits : List VisitText) → WalksOn url heads stop here is_behind_success [] visits
    → Walks (Ok url) false heads stop visits None
ends url heads stop here is_behind_success visits far =
    subst (λ vs. Walks (Ok url) false heads stop vs None) (append-nil visits) (far [] None (none here))
  where
    none : (here : Result Parts Lost) → Walks here is_behind_success [] stop [] None
    none (Ok url) = (refl, refl)
    none (Err by) = (refl, refl)

pub leaves_out : (url : Parts) (heads : List HeadText) (stop : Option (ℕ × StopFault)) (by : Lost)
    (is_behind_success : Bool) (head : HeadText) (left : List HeadText) (visits : List VisitText)
    → WalksOn url heads stop (Err by) is_behind_success (head ∷ left) visits
    → Walks (Ok url) false heads stop visits (Some by)
leaves_out url heads stop by is_behind_success head left visits far =
    subst (λ vs. Walks (Ok url) false heads stop vs (Some by)) (append-nil visits) (far [] (Some by) (refl, refl))

pub none_left : {A : Type 0} (xs : List A) → length xs ≡ 0 → xs ≡ []
none_left [] none = refl
none_left (x ∷ xs) none = absurd (omega (arith, none))

-- ---- the last head

pub last_pushed : (url : Parts) (front : List HeadText) (head : HeadText)
    → last_visits url (front ++ head ∷ []) false ≡ (record { url = url; head = head; is_tunnel = false }) ∷ []
last_pushed url [] head = refl
last_pushed url (first ∷ []) head = refl
last_pushed url (first ∷ next ∷ more) head = last_pushed url (next ∷ more) head

pub last_stopped : (url : Parts) (heads : List HeadText) → last_visits url heads true ≡ []
last_stopped url [] = refl
last_stopped url (first ∷ []) = refl
last_stopped url (first ∷ next ∷ more) = last_stopped url (next ∷ more)
