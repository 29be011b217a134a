-- Which refusal of a call the error of a pool's build is.
use Rattle.parallel_fault.specs.declared.fault.Fault.{Fault}
use Rattle.parallel_fault.specs.declared.fault.Fault.TheVariants.{Worker}
use Rattle.parallel_fault.specs.declared.fault.Fault.TheVariants.{Memory as WantOfMemory}
use Rattle.parallel_pool.specs.declared.rayon.build_error.ThreadPoolBuildError.{ThreadPoolBuildError}
use Rattle.parallel_pool.specs.declared.rayon.build_error.ThreadPoolBuildError.TheVariants.{Memory, Spawn}

-- `Memory`, or a worker that could not be started
abbrev pub fault_of : ThreadPoolBuildError → Fault
fault_of Memory = WantOfMemory
fault_of Spawn = Worker
