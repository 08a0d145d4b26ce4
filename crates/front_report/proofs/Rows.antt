-- Lines of refusals and of fronts, worked out.
use Rattle.std.proofs.Common.{◌≡◌, [], ◌∷◌, refl}
use Rattle.std.specs.Prelude.{codes, pos, negsuc}
use Rattle.std.specs.Fmt.{digits}
use Rattle.front_report.specs.Refusals.{error_line, nowhere, reason}
use Rattle.front_report.specs.Points.{vector_line, claims_line}

name_not_found : error_line (record { code = 62; at = record { line = 2; column = 7 }; value = 0 })
    ≡ codes "error E062 2:7 0 name not found\n"
unfolding error_line reason digits
name_not_found = refl

too_long : error_line (nowhere 10 1048577) ≡ codes "error E010 0:0 1048577 text too long\n"
unfolding error_line reason digits
too_long = refl

vector : vector_line (pos 4 ∷ negsuc 2 ∷ []) ≡ codes "point 4 -3\n"
unfolding digits
vector = refl

no_vector : vector_line [] ≡ codes "point\n"
no_vector = refl

claims : claims_line 2 ≡ codes "claims 2\n"
unfolding digits
claims = refl
