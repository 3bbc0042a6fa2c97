-- How what a screen shows is stored, by which proofs tell two of them apart.
use Rattle.std.specs.Prelude.{◌≡◌, suc, List, [], ◌∷◌, Option, Some, None, refl}
use Rattle.std.proofs.Common.{sym, ap, ◌∙◌}
use base.Stored.{Gv, gnil, gnum, gcons, Coded}
use Rattle.cards.specs.declared.seat.Seat.{Seat}
use Rattle.cards.specs.declared.seat.Seat.TheVariants.{North, East, South, West}
use Rattle.cards.specs.Pack.{seat_number, seat_of_number}
use Rattle.screens.specs.Completions.{ScreenView}
use Rattle.conditions.specs.internal.FormCode.{form_stored, form_from, form_back}

abbrev place_stored : Option Seat → Gv
place_stored None = gnum 0
place_stored (Some q) = gnum (suc (seat_number q))

abbrev place_from : Gv → Option Seat
place_from (gnum (suc n)) = Some (seat_of_number n)
place_from _ = None

place_back : (o : Option Seat) → place_from (place_stored o) ≡ o
place_back None = refl
place_back (Some North) = refl
place_back (Some East) = refl
place_back (Some South) = refl
place_back (Some West) = refl

abbrev places_stored : List (Option Seat) → Gv
places_stored [] = gnil
places_stored (o ∷ os) = gcons (place_stored o) (places_stored os)

abbrev places_from : Gv → List (Option Seat)
places_from (gcons o os) = place_from o ∷ places_from os
places_from _ = []

places_back : (os : List (Option Seat)) → places_from (places_stored os) ≡ os
places_back [] = refl
places_back (o ∷ os) =
    ap (λ p. p ∷ places_from (places_stored os)) (place_back o)
    ∙ ap (λ ps. o ∷ ps) (places_back os)

abbrev view_stored : ScreenView → Gv
view_stored v = gcons (form_stored v.form) (places_stored v.fixed)

abbrev view_from : Gv → ScreenView
view_from (gcons form fixed) = record { form = form_from form; fixed = places_from fixed }
view_from v = record { form = form_from v; fixed = [] }

view_back : (v : ScreenView) → view_from (view_stored v) ≡ v
view_back v =
    ap (λ f. record { form = f; fixed = places_from (places_stored v.fixed) }) (form_back v.form)
    ∙ ap (λ ps. record { form = v.form; fixed = ps }) (places_back v.fixed)

pub one_view : (a b : ScreenView) → view_stored a ≡ view_stored b → a ≡ b
one_view a b e = sym (view_back a) ∙ ap view_from e ∙ view_back b

abbrev pub screen_code : Coded ScreenView
screen_code = record { code = view_stored; inj = one_view }
