-- What a table of services stands for.
use Rattle.std.specs.Prelude.{ℕ, List}
use Rattle.shared_services.specs.Services.{FitMaxima}
use Rattle.shared_services.specs.declared.services.ServiceTable.TheInside.{Inside}

-- the maximum of each service
abbrev pub service_maxima : Inside → List ℕ
service_maxima t = t.maxima.items

abbrev pub HasFitMaxima : Inside → Type 0
HasFitMaxima t = FitMaxima t.maxima.items
