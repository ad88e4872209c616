use Rattle.shared_services.specs.Services.{first_lock, maximum_of}
use Rattle.shared_services.proofs.lemmas.Owners.{few_of}
use Rattle.shared_services.proofs.laws.no_service_has_more_users_than_its_maximum.Goals as goal

pub returns : goal.returns
returns c = λ maxima s service. few_of s.owners (first_lock maxima service) (maximum_of maxima service)
